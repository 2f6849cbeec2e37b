-- The arrays have room for the tables, since no row asks for more new symbols than its table's number.
use mathlib.Core.Path.{◌≡◌, refl}
use mathlib.Core.Bool.{Bool, true, false, not, cond, ◌&&◌}
use mathlib.Core.List.{List, [], ◌∷◌}
use Prim.Native.Nat.{ℕ, ◌≤◌}
use Rattle.std.specs.Prelude.{is_some}
use native.Mathlib.Omega.{arith}
use lib.Dec.{eqb}
use Rattle.lines.specs.Lines.{Line}
use Rattle.schemas.specs.declared.Table.{Table}
use Rattle.schemas.specs.declared.Table.TheVariants.{Pid, Pic, Plf, Pcf, Caf, Cap, Txf, Txp, Ocf, Ocp, Mcf}
use Rattle.formed.specs.Formed.{formed}
use Rattle.decoding.specs.Records.{pid_row, ocf_row}
use Rattle.rows.specs.declared.records.PidRow.{PidRow}
use Rattle.rows.specs.declared.letters.Valid.{Valid}
use Rattle.rows.specs.declared.letters.Valid.TheVariants.{Yes, No}
use Rattle.rows.specs.declared.letters.LimitValue.{LimitValue}
use Rattle.rows.specs.declared.letters.LimitValue.TheVariants as LV
use Rattle.symbols.proofs.SameLaws.{same_self}
use Rattle.verdicts.specs.Facts.{Naming, of_engineering, pid_keys, facts_of}
use Rattle.verdicts.specs.Facts.{pid_facts, pic_facts, plf_facts, pcf_facts, caf_facts, cap_facts, txf_facts, txp_facts, ocf_facts, ocp_facts, mcf_facts}
use Rattle.verdicts.specs.Entries.{RowReading, fine, bad, reading_of, own, facts_in}
use Rattle.row_keys.specs.declared.records.Named.{Named}
use Rattle.row_keys.specs.declared.records.RowKeys.{RowKeys}
use Rattle.key_symbols.specs.Keyed.{symbol_of}
use Rattle.manners.specs.Manners.{bit, manners, manner_at, weight, same_manner, code_from, code_of}
use Rattle.keys.specs.Held.{slot_of, named_of, keys_of, row_keys_of}
use Rattle.row_keys.specs.Parts.{key_in, is_named}
use Rattle.kept.specs.Ids.{names_symbol, besides, first_wanted, wanted}
use Rattle.kept.specs.Asked.{asks, asks_of, Roomy}

pub roomy : Roomy
unfolding asks_of asks
roomy = record { rows = omega arith; symbols = omega arith; numbers = omega arith }

bit_most : (b : Bool) → bit b ≤ 1
bit_most true = omega arith
bit_most false = omega arith

-- a key that is named asks for none
beside_same : (n : Named) (given : Bool) → is_named n ≡ true → besides n given n.key ≡ 0
beside_same n true e = rw (e, same_self n.key)
beside_same n false e = refl

-- rows that hold one key and are counted in no group but that of their first naming
module _ (r : RowKeys) (second : bit (is_some r.second) ≡ 0) (group : besides r.one (is_some r.group) (key_in r.group) ≡ 0) where
  three : wanted r ≤ 3
  unfolding wanted first_wanted
  three =
      omega (
        arith,
        second,
        group,
        bit_most (is_some r.first),
        bit_most (is_named r.one),
        bit_most
            (is_named r.two && not (names_symbol r.one r.two.key)),
      )

  two : besides r.one (is_named r.two) r.two.key ≡ 0 → wanted r ≤ 2
  unfolding wanted first_wanted
  two e = omega (arith, second, group, e, bit_most (is_some r.first), bit_most (is_named r.one))

pid_asks : (v : Valid) (r : PidRow) → wanted (keys_of 0 (record { keys = pid_keys v r; names = []; counts = []; groups = []; meets = (pid_facts r).meets })) ≤ 2
unfolding wanted first_wanted keys_of slot_of named_of pid_keys
pid_asks Yes r = omega arith
pid_asks No r = omega arith

-- a second naming of the same key
engineering : (v : LimitValue) (one : Named) (m : Naming) → is_named one ≡ true → symbol_of m.key ≡ one.key
    → besides one (is_named (named_of (of_engineering v m))) (named_of (of_engineering v m)).key ≡ 0
unfolding named_of
engineering LV.Raw one m e q = refl
engineering LV.Engineering one m e q = rw q (beside_same one (is_named (named_of (m ∷ []))) e)

facts_ask : (t : Table) (line : List ℕ) → wanted (keys_of 0 (facts_of t line)) ≤ asks t
unfolding asks wanted first_wanted keys_of slot_of named_of facts_of
    pid_facts pic_facts plf_facts pcf_facts caf_facts cap_facts txf_facts txp_facts ocf_facts ocp_facts mcf_facts
    manners manner_at weight same_manner code_from code_of
facts_ask Pid line = pid_asks (pid_row line).valid (pid_row line)
facts_ask Pic line = omega arith
facts_ask Plf line = three (keys_of 0 (facts_of Plf line)) refl refl
facts_ask Pcf line = three (keys_of 0 (facts_of Pcf line)) refl refl
facts_ask Caf line = omega arith
facts_ask Cap line = let r = keys_of 0 (facts_of Cap line) in two r refl (beside_same r.one true refl) refl
facts_ask Txf line = omega arith
facts_ask Txp line = let r = keys_of 0 (facts_of Txp line) in two r refl (beside_same r.one true refl) refl
facts_ask Ocf line = let r = keys_of 0 (facts_of Ocf line) in two r refl refl (engineering (ocf_row line).inter r.one _ refl refl)
facts_ask Ocp line = let r = keys_of 0 (facts_of Ocp line) in three r refl (beside_same r.one true refl)
facts_ask Mcf line = omega arith

-- a row with one of reasons 1 to 8 asks for none
none_asked : (v : ℕ) → wanted (keys_of v (facts_in (bad v))) ≡ 0
unfolding wanted first_wanted keys_of slot_of named_of
none_asked v = refl

pub row_asks : (t : Table) (line : Line) → wanted (row_keys_of t line) ≤ asks t
unfolding row_keys_of reading_of
row_asks t line = go (eqb (formed t line) 0)
  where
    read : Bool → RowReading
    read z = cond z (fine (facts_of t line.bytes)) (bad (formed t line))

    go : (z : Bool) → wanted (keys_of (own (read z)) (facts_in (read z))) ≤ asks t
    go true = facts_ask t line.bytes
    go false = omega (arith, none_asked (formed t line))
