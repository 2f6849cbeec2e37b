-- The rows that hold parameters are of pcf, which has at most 1,024 where the tables aren't refused.
use mathlib.Core.Path.{◌≡◌, refl, ap, ◌∙◌}
use mathlib.Core.Bool.{Bool, true, false, cond}
use mathlib.Core.List.{List, [], ◌∷◌, ◌++◌, Memᴰ}
use Prim.Native.Nat.{ℕ, suc, ◌+◌, ◌≤◌, ◌<◌}
use native.Mathlib.Omega.{arith}
use lib.Dec.{eqb}
use lib.ListN.{length, get_or, length-append}
use borrow.Author.Tests.{eq-eqb, ne_eqb, eqb-true}
use Rattle.laws.specs.Lists.{keep}
use Rattle.laws.proofs.Cases.{bool_cases, cond_cases}
use Rattle.laws.proofs.Tests.{keep_mem, keep_length}
use Rattle.lines.specs.Lines.{Line, lines_of}
use Rattle.name_bytes.specs.declared.Name.{Name}
use Rattle.schemas.specs.declared.Table.{Table}
use Rattle.schemas.specs.declared.Table.TheVariants.{Pcf}
use Rattle.rows.specs.declared.records.PcfRow.{PcfRow}
use Rattle.verdicts.specs.Key.{parameter}
use Rattle.verdicts.specs.Entries.{carried}
use Rattle.verdicts.specs.Answer.{most_rows, too_many_rows}
use Rattle.verdicts.proofs.OwnerLaws.{table_index, owners_of}
use Rattle.tables.proofs.SizeLaws.{few}
use Rattle.database.specs.Rows.{Row}
use Rattle.database.specs.GoodRows.{rows_of, rows_from, rows_in, is_good, good_rows, holds_key, among, of_tables}
use Rattle.database.proofs.RowLaws.{found_passes}
use Rattle.database.proofs.OwnerLaws.{only_owner, table_number_lem}
use Rattle.readings.specs.Readings.{agrees, validity, reading}
use Rattle.readings.proofs.ValidityLaw.{FewParameters, validity_law}

-- Lists

module _ {A : Type 0} where
  keep_append : (f : A → Bool) (a b : List A) → keep f (a ++ b) ≡ keep f a ++ keep f b
  keep_append f [] b = refl
  keep_append f (x ∷ a) b = by (f x) (keep_append f a b)
    where
      by : (t : Bool) → keep f (a ++ b) ≡ keep f a ++ keep f b → cond t (x ∷ keep f (a ++ b)) (keep f (a ++ b)) ≡ cond t (x ∷ keep f a) (keep f a) ++ keep f b
      by true e = ap (λ (l : List A). x ∷ l) e
      by false e = e

  mem_keep : (f : A → Bool) {a : A} (l : List A) → Memᴰ a l → f a ≡ true → Memᴰ a (keep f l)
  mem_keep f {a = a} [] x'' t = elim x'' [ ]
  mem_keep f (x ∷ l) (Memᴰ.head q) t =
      let e : f x ≡ true = cc in
      rw e (Memᴰ.head q)
  mem_keep f {a} (x ∷ l) (Memᴰ.tail m) t =
      cond_cases (λ (r : List A). Memᴰ a r) (f x) (λ _. Memᴰ.tail (mem_keep f l m t)) (λ _. mem_keep f l m t)

-- Rows that hold parameters

-- pcf is the fourth table
holds_number : (name : Name) (row : Row) → holds_key (parameter name) row ≡ true → row.table ≡ 3
unfolding owners_of table_index
holds_number name row e =
    table_number_lem row.table Pcf (λ q. omega (arith, ap table_index q)) (only_owner (parameter name) Pcf row refl e)

-- The rows of one table

abbrev of_table : ℕ → Row → Bool
of_table u row = eqb row.table u

no_others : (u t r start : ℕ) (ls : List Line) → eqb t u ≡ false → keep (of_table u) (rows_of t r start ls) ≡ []
unfolding rows_of
no_others u t r start [] e = refl
no_others u t r start (l ∷ ls) e = rw e (no_others u t (suc r) (start + length l.bytes + 1) ls e)

length_rows : (t r start : ℕ) (ls : List Line) → length (rows_of t r start ls) ≡ length ls
unfolding rows_of
length_rows t r start [] = refl
length_rows t r start (l ∷ ls) = ap suc (length_rows t (suc r) (start + length l.bytes + 1) ls)

none_after : (u t : ℕ) (tables : List Table) (texts : List (List ℕ)) → u < t → keep (of_table u) (rows_from t tables texts) ≡ []
unfolding rows_from
none_after u t [] texts h = refl
none_after u t (x ∷ tables) [] h = refl
none_after u t (x ∷ tables) (text ∷ texts) h =
    keep_append (of_table u) (rows_of t 1 0 (lines_of text)) (rows_from (suc t) tables texts)
    ∙ rw (no_others u t 1 0 (lines_of text) (ne_eqb t u (omega arith))) (none_after u (suc t) tables texts (omega arith))

-- as many as its lines
abbrev FewLines : List (List ℕ) → Type 0
FewLines texts = (i : ℕ) → i < length texts → length (lines_of (get_or texts i [])) ≤ most_rows

few_rows : (u t : ℕ) (tables : List Table) (texts : List (List ℕ)) → FewLines texts → length (keep (of_table u) (rows_from t tables texts)) ≤ most_rows
unfolding rows_from
few_rows u t [] texts h = omega arith
few_rows u t (x ∷ tables) [] h = omega arith
few_rows u t (x ∷ tables) (text ∷ texts) h =
    rw (keep_append (of_table u) (rows_of t 1 0 (lines_of text)) (rows_from (suc t) tables texts))
    (bool_cases (eqb t u)
    (λ e. rw (none_after u (suc t) tables texts (omega (arith, eqb-true t u e)))
    (omega (
      arith,
      length-append (keep (of_table u) (rows_of t 1 0 (lines_of text))) [],
      keep_length (of_table u) (rows_of t 1 0 (lines_of text)),
      length_rows t 1 0 (lines_of text),
      h 0 (omega arith),
    )))
    (λ e. rw (no_others u t 1 0 (lines_of text) e) (few_rows u (suc t) tables texts (λ i l. h (suc i) (omega arith)))))

pub few_parameters : (texts : List (List ℕ)) → too_many_rows texts ≡ 0 → FewParameters (of_tables texts)
unfolding of_tables among good_rows rows_in
few_parameters texts e =
    record {
      pcf = keep (of_table 3) (rows_in texts);
      few = few_rows 3 0 carried texts (λ i h. few texts i h e);
      from = λ name row f.
          let h = found_passes (holds_key (parameter name)) (good_rows texts) row f in
          mem_keep (of_table 3) (rows_in texts) (keep_mem (is_good texts) (rows_in texts) h.0).0 (eq-eqb row.table 3 (holds_number name row h.1));
    }

-- 01's sentence of validity, of any tables that aren't refused
pub validity_of_tables : (texts : List (List ℕ)) → too_many_rows texts ≡ 0 → (p : List ℕ) (spid : ℕ) (row : PcfRow) → validity (of_tables texts) p spid row
    ≡ cond row.valid.given (agrees (reading (of_tables texts) p spid row.valid.name 0) row.valpar) true
validity_of_tables texts e p spid row = validity_law (of_tables texts) (few_parameters texts e) p spid row
