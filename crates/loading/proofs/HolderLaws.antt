-- The row that the columns give for a key is the good row that holds it.
use mathlib.Core.Path.{◌≡◌, refl, ap, sym, subst, ◌∙◌}
use mathlib.Core.Bool.{Bool, true, ◌&&◌, ◌||◌}
use mathlib.Core.List.{List, [], ◌∷◌}
use mathlib.Core.Option.{Option, none, some}
use Prim.Native.Nat.{ℕ, zero, suc, ◌-◌, ◌<◌}
use native.Mathlib.Omega.{arith}
use lib.ListN.{length, get_or, replicate, length-replicate, get_or-replicate}
use borrow.Author.Tests.{ne_eqb}
use Rattle.laws.specs.Lists.{keep, or_else}
use Rattle.laws.specs.Prefix.{last_with}
use Rattle.laws.proofs.At.{keep_none, keep_one}
use Rattle.laws.proofs.Cases.{cond_cases₂, and_left, and_right, and_false}
use Rattle.symbols.specs.declared.Symbol.{Symbol}
use Rattle.symbols.specs.Arrays.{symbols, most_symbols}
use Rattle.passes.specs.Marked.{has_id}
use Rattle.passes.specs.Holders.{Noted}
use Rattle.verdicts.specs.Key.{Key}
use Rattle.verdicts.specs.Entries.{all_rows}
use Rattle.verdicts.specs.Steps.{holds}
use Rattle.meaning.specs.Kept as meaning
use Rattle.meaning.specs.Kept.{key_id, Known}
use Rattle.meaning.proofs.FindLaws.{only_holder}
use Rattle.kept.specs.Stored.{key1_column, key2_column}
use Rattle.judged.specs.Passes.{column_of}
use Rattle.judged.proofs.Held.{coding}
use Rattle.database.specs.Rows.{Row}
use Rattle.database.specs.Arrays.{holder_column, row_for, keyed_by}
use Rattle.database.specs.GoodRows.{rows_in, is_good, good_rows, holds_key, find}
use Rattle.loading.proofs.ListLaws.{keep_keep, Hit, hit_either, hit_same}
use Rattle.loading.proofs.RowLaws.{no_row, row_in, length_rows_in}
use Rattle.loading.proofs.GoodLaws.{good_at, good_alone}
use Rattle.loading.proofs.IdLaws.{known_cases, id_few, keyed_known, keyed_none}
use Rattle.loading.proofs.KeyLaws.{good_holds, none_holds}
use Rattle.loading.proofs.IndexedRows.{IndexedRows, row_is, mark_at, row_holds}

-- the first of rows
abbrev pub first_of : List Row → Option Row
first_of [] = none
first_of (row ∷ rows) = some row

-- the first row that passes is the first of those that are kept
find_kept : (f : Row → Bool) (rows : List Row) → find f rows ≡ first_of (keep f rows)
unfolding find
find_kept f [] = refl
find_kept f (row ∷ rows) = cond_cases₂ (λ (a : Option Row) (k : List Row). a ≡ first_of k) (f row) (λ _. refl) (λ _. find_kept f rows)

-- of the good ones
pub find_good : (texts : List (List ℕ)) (f : Row → Bool) → find f (good_rows texts) ≡ first_of (keep (λ row. is_good texts row && f row) (rows_in texts))
unfolding good_rows
find_good texts f = find_kept f (keep (is_good texts) (rows_in texts)) ∙ ap first_of (keep_keep (is_good texts) f (rows_in texts))

-- two passes from nothing note the last row of each key
noted_twice : (m : ℕ) (marks ids₁ ids₂ once twice : List ℕ) (n id : ℕ) → Noted marks ids₁ (replicate m 0) once n → Noted marks ids₂ once twice n → id < m
    → get_or twice id 0 ≡ or_else (last_with (has_id marks ids₂ id) n) (last_with (has_id marks ids₁ id) n)
noted_twice m marks ids₁ ids₂ once twice n id a b h =
    let l : length {A = ℕ} (replicate m 0) ≡ m = length-replicate m 0 in
    b.at id (omega (arith, a.size))
    ∙ ap (or_else (last_with (has_id marks ids₂ id) n))
    (a.at id (omega arith) ∙ ap (or_else (last_with (has_id marks ids₁ id) n)) (get_or-replicate m id 0 0 h) ∙ or_zero (last_with (has_id marks ids₁ id) n))
  where
    or_zero : (x : ℕ) → or_else x 0 ≡ x
    or_zero zero = refl
    or_zero (suc x) = refl

module _ {texts : List (List ℕ)} {words links : List ℕ} {count : ℕ} {halves bytes cells columns : List ℕ}
    (r : IndexedRows texts words links count halves bytes cells columns) (k : Key) where
  abbrev n : ℕ
  n = length (all_rows texts)

  abbrev ls : List Symbol
  ls = symbols words count

  abbrev marks : List ℕ
  marks = r.index.marks

  abbrev found : ℕ
  found = keyed_by words links columns holder_column k

  -- row i is good and holds the key
  abbrev pub held : ℕ → Bool
  held i = good_at texts i && holds (meaning.kept_entry (all_rows texts) i) k

  hit_known : Known coding ls k → Hit held n found
  hit_known q =
      let id : ℕ = key_id coding ls k in
      let few = id_few r.held.stored.table r.held.stored.small k q in
      let key1 : List ℕ = column_of halves key1_column in
      let key2 : List ℕ = column_of halves key2_column in
      let e : found ≡ or_else (last_with (has_id marks key2 id) n) (last_with (has_id marks key1 id) n) =
      keyed_known r.held.stored.table r.held.stored.small k q columns holder_column ∙ r.index.holder id few
      ∙ noted_twice most_symbols marks key1 key2 r.index.once r.index.holders n id r.index.first_keys r.index.second_keys few in
      subst (Hit held n) (sym e)
      (hit_same held (λ i. has_id marks key1 id i || has_id marks key2 id i) n _
      (good_holds texts r.held marks (mark_at r) k q)
      (hit_either (has_id marks key1 id) (has_id marks key2 id) n))

  hit_none : (Known coding ls k → ⊥) → Hit held n found
  hit_none z =
      let e = keyed_none r.held.stored.table r.held.stored.small k z columns holder_column in
      record {
        none = λ _ i p. ap (λ (t : Bool). good_at texts i && t) (none_holds texts r.held k z i p) ∙ and_false (good_at texts i);
        some = λ i s. absurd (omega arith);
      }

  -- what the column says of the key leads to a good row that holds it, if there is one
  pub hit : Hit held n found
  hit = known_cases r.held.stored.table r.held.stored.small k hit_known hit_none

  -- it is the only one
  pub only : (i j : ℕ) → i < n → j < n → held i ≡ true → held j ≡ true → i ≡ j
  only i j p q a b =
      only_holder (all_rows texts) r.held.tables k j i q p (and_right (good_at texts j) _ b) (and_right (good_at texts i) _ a)
      (good_alone texts i p (and_left (good_at texts i) _ a))

  abbrev passes : Row → Bool
  passes row = is_good texts row && holds_key k row

  passes_is : (i : ℕ) → i < n → passes (row_in texts i) ≡ held i
  passes_is i p = row_holds r i p k

  first_is_lem : (at : ℕ) → Hit held n at → row_for texts columns at ≡ first_of (keep passes (rows_in texts))
  unfolding row_for
  first_is_lem zero w = rw (keep_none no_row passes (rows_in texts) (λ i p. let q : i < n = omega (arith, length_rows_in texts) in passes_is i q ∙ w.none refl i q))
  first_is_lem (suc j) w =
      let s = w.some j (omega arith) in
      let l = length_rows_in texts in
      let m : suc j - 1 ≡ j = omega arith in
      rw (
        ne_eqb (suc j) 0 (λ z. omega arith),
        m,
        row_is r j s.0,
        keep_one no_row passes (rows_in texts) j (omega (arith, s.0)) (passes_is j s.0 ∙ s.1)
            (λ i p e. let q : i < n = omega arith in only i j q s.0 (sym (passes_is i q) ∙ e) s.1),
      )

  -- THE LAW OF HOLDERS
  pub holder_is : row_for texts columns (keyed_by words links columns holder_column k) ≡ find (holds_key k) (good_rows texts)
  holder_is = first_is_lem found hit ∙ sym (find_good texts (holds_key k))
