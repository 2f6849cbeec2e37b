-- Keys and namings of rows in which a column may say nothing.
use mathlib.Core.Path.{◌≡◌, refl, ap}
use mathlib.Core.Bool.{Bool, true, false, cond}
use mathlib.Core.List.{List, [], ◌∷◌, ◌++◌}
use Prim.Native.Nat.{ℕ}
use Rattle.std.specs.Bool.{then_some}
use lib.Dec.{eqb}
use lib.ListN.{drop}
use borrow.Author.Tests.{eqb-true}
use Rattle.lines.specs.Lines.{Line}
use Rattle.schemas.specs.declared.Table.{Table}
use Rattle.formed.specs.Formed.{formed}
use Rattle.rows.specs.declared.records.PidRow.{PidRow}
use Rattle.rows.specs.declared.records.PcfRow.{PcfRow}
use Rattle.rows.specs.declared.letters.Valid.{Valid}
use Rattle.rows.specs.declared.letters.Valid.TheVariants.{Yes, No}
use Rattle.rows.specs.declared.letters.LimitValue.{LimitValue}
use Rattle.rows.specs.declared.letters.LimitValue.TheVariants as LV
use Rattle.symbols.specs.declared.Symbol.{Symbol}
use Rattle.verdicts.specs.Key.{Key, packet, structure, parameter}
use Rattle.verdicts.specs.Facts.{Condition, any_row, whole, Kind, itself, Facts, Naming, plainly, facts_of, pid_keys, curtx_key, pcf_facts, of_engineering}
use Rattle.verdicts.specs.Entries.{reading_of, own, facts_in, fine, bad}
use Rattle.key_symbols.specs.Keyed.{symbol_of}
use Rattle.manners.specs.Manners.{manner_of, manners, weight, same_manner, code_from, code_of, marks_of}
use Rattle.row_keys.specs.declared.records.RowKeys.{RowKeys}
use Rattle.row_keys.specs.Columns.{is_yes, is_engineering}
use Rattle.row_keys.specs.Parts.{no_name, no_keys, holder, with_names, naming, counter, member}
use Rattle.keys.specs.Held.{slot_of, named_of, count_of, keys_of, column_keys, row_keys_of}

-- the keys of a pid row
module _ (r : PidRow) {yes : Bool} {s : Symbol} where
  pub pid_first : (v : Valid) → yes ≡ is_yes v → s ≡ symbol_of (packet r.ptype r.stype r.apid r.pi1 r.pi2)
      → then_some yes s ≡ slot_of (pid_keys v r)
  unfolding pid_keys slot_of
  pid_first Yes e f = rw (e, f)
  pid_first No e f = rw e

  pub pid_second : (v : Valid) → yes ≡ is_yes v → s ≡ symbol_of (structure r.spid.0) → then_some yes s ≡ slot_of (drop 1 (pid_keys v r))
  unfolding pid_keys slot_of
  pid_second Yes e f = rw (e, f)
  pid_second No e f = rw e

-- a naming that isn't chained
abbrev pub unchained : ℕ → Key → Kind → Naming
unchained column key kind = record { column = column; key = key; kind = kind; chained = false }

-- two namings that may not be given
module _ (row : RowKeys) (m n : Naming) (coded : eqb (code_of (manner_of m)) 0 ≡ false) where
  abbrev those : Bool → Bool → List Naming
  those v w = cond v (m ∷ []) [] ++ cond w (n ∷ []) []

  named_both : (v w : Bool) → with_names row (named_of (those v w)) (named_of (drop 1 (those v w)))
      ≡ naming row (cond v (named_of (m ∷ [])) no_name) (cond w (named_of (n ∷ [])) no_name)
  unfolding named_of
  named_both true true = rw coded
  named_both true false = rw coded
  named_both false true = refl
  named_both false false = refl

-- one
pub name_given : (n : Naming) (w : Bool) → named_of (cond w (n ∷ []) []) ≡ cond w (named_of (n ∷ [])) no_name
unfolding named_of
name_given n true = refl
name_given n false = refl

pub name_under_c : (n : Naming) (i : LimitValue) → named_of (of_engineering i n) ≡ cond (is_engineering i) (named_of (n ∷ [])) no_name
unfolding named_of
name_under_c n LV.Raw = refl
name_under_c n LV.Engineering = refl

-- the keys of a pcf row
pub pcf_said : (v : ℕ) (r : PcfRow) → keys_of v (pcf_facts r)
    ≡ naming (holder v (symbol_of (parameter r.name)) (marks_of (pcf_facts r).meets))
    (cond r.valid.given (record { code = 3; key = symbol_of (parameter r.valid.name) }) no_name)
    (cond r.curtx.given (record { code = 4; key = symbol_of (curtx_key r.categ r.curtx) }) no_name)
unfolding keys_of pcf_facts slot_of named_of count_of manners weight same_manner code_from code_of
pcf_said v r =
    named_both (holder v (symbol_of (parameter r.name)) (marks_of (pcf_facts r).meets))
    (record { column = 8; key = parameter r.valid.name; kind = itself whole; chained = true })
    (unchained 12 (curtx_key r.categ r.curtx) (itself any_row))
    refl r.valid.given r.curtx.given

-- the keys of a row that counts, as caf and txf have them
pub counter_said : (v : ℕ) (k : Key) (column number : ℕ) (meets : Condition → Bool)
    → keys_of v (record { keys = k ∷ []; names = []; counts = record { column = column; number = number; group = k } ∷ []; groups = []; meets = meets })
    ≡ counter v (symbol_of k) column number (marks_of meets)
unfolding keys_of slot_of named_of count_of
counter_said v k column number meets = refl

-- and of one that is counted in the group that its first column names, as cap and txp have them
pub member_said : (v : ℕ) (k g : Key) (kind : Kind)
    → keys_of v (record { keys = k ∷ []; names = unchained 1 g kind ∷ []; counts = []; groups = g ∷ []; meets = plainly })
    ≡ member v (symbol_of k) (symbol_of g) (code_of (manner_of (unchained 1 g kind)))
unfolding keys_of slot_of named_of count_of marks_of weight
member_said v k g kind = refl

-- a row with one of reasons 1 to 8 is blanked
blanked_at : (z : Bool) (v : ℕ) (f : Facts) → eqb v 0 ≡ z
    → cond z (keys_of v f) (no_keys v) ≡ keys_of (own (cond z (fine f) (bad v))) (facts_in (cond z (fine f) (bad v)))
unfolding keys_of slot_of named_of count_of marks_of
blanked_at true v f e = ap (λ (n : ℕ). keys_of n f) (eqb-true v 0 e)
blanked_at false v f e = refl

pub row_blanked : (table : Table) (line : Line) → cond (eqb (formed table line) 0) (column_keys table line) (no_keys (formed table line)) ≡ row_keys_of table line
unfolding row_keys_of reading_of
row_blanked table line = blanked_at (eqb (formed table line) 0) (formed table line) (facts_of table line.bytes) refl
