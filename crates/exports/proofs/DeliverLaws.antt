-- What is delivered of an answer whose place is small.
use mathlib.Core.Path.{◌≡◌, refl, ap, ◌∙◌}
use mathlib.Core.List.{List}
use Prim.Native.Nat.{ℕ, ◌^◌, ◌%◌, ◌<◌}
use native.Mathlib.Omega.{arith}
use lib.IntN.{ℤ}
use lib.ListN.{length, take}
use Rattle.outcomes.specs.Outcome.{Outcome, refused, answer}
use Rattle.verdicts.specs.Answer.{Imported, room_in, import_of, cells_after, positions_after}
use Rattle.verdicts.specs.Entries.{table_count}
use Rattle.refusal_places.specs.Small.{place_in, Small}
use Rattle.telling.specs.declared.Telling.{Telling}
use Rattle.plain_answers.specs.Values.{counts_of, of_counts}
use Rattle.telling.specs.Answers.{Plain, plain_of, told_plainly, code, written, Told}
use Rattle.index_calls.specs.IndexCalls.{made_of, count_of, list_after}
use Rattle.index_telling.specs.Values.{of_entries}
use Rattle.exports.specs.Exports.{ImportTold, IndexTold}
use Rattle.exports.proofs.ImportPlaces.{import_small}
use Rattle.exports.proofs.IndexPlaces.{made_small}

place_plain : {A : Type 0} (values_of : A → List ℤ) (o : Outcome A) → (plain_of values_of o).place ≡ place_in o
unfolding plain_of place_in
place_plain values_of (refused number place) = refl
place_plain values_of (answer a) = refl

-- in plain numbers
module _ {p : Plain} (t : Telling) {before after : List ℤ} {r : ℕ} where
  pub plainly_delivered : told_plainly t ≡ p → p.place < 2 ^ 32 → r ≡ code t.number (t.place % 2 ^ 32)
      → after ≡ written before (take t.count t.values) → Told p before after r
  unfolding told_plainly
  plainly_delivered m b c w =
      let k : t.place ≡ p.place = ap (λ (q : Plain). q.place) m in
      let u : t.place % 2 ^ 32 ≡ t.place = omega arith in
      record {
        result = c ∙ ap (code t.number) u ∙ ap (λ (q : Plain). code q.number q.place) m;
        places = w ∙ ap (λ (q : Plain). written before q.values) m;
      }

module _ {A : Type 0} (values_of : A → List ℤ) {o q : Outcome A} (t : Telling) {before after : List ℤ} {r : ℕ} where
  pub delivered : o ≡ q → Small q → told_plainly t ≡ plain_of values_of o → r ≡ code t.number (t.place % 2 ^ 32)
      → after ≡ written before (take t.count t.values) → Told (plain_of values_of q) before after r
  delivered e s l c w =
      let b : (plain_of values_of q).place < 2 ^ 32 = rw (place_plain values_of q) s.below in
      plainly_delivered t (l ∙ ap (plain_of values_of) e) b c w

pub import_delivered : (texts : List (List ℕ)) → length texts ≡ table_count → (cells positions : List ℕ) {x : Imported} {cells' positions' : List ℕ}
    (t : Telling) {before after : List ℤ} {r : ℕ} → x ≡ import_of texts (room_in cells positions) → cells' ≡ cells_after texts cells x
    → positions' ≡ positions_after texts positions x → told_plainly t ≡ plain_of of_counts (counts_of x)
    → r ≡ code t.number (t.place % 2 ^ 32) → after ≡ written before (take t.count t.values)
    → ImportTold texts cells cells' positions positions' before after r
import_delivered texts all cells positions t e l p k c w =
    record {
      told = delivered of_counts t (ap counts_of e) (import_small texts all (room_in cells positions)) k c w;
      left = l ∙ ap (cells_after texts cells) e;
      beside = p ∙ ap (positions_after texts positions) e;
    }

pub index_delivered : (texts : List (List ℕ)) → length texts ≡ table_count → (rows : List ℕ) {o : Outcome ℕ} {rows' : List ℕ} (t : Telling)
    {before after : List ℤ} {r : ℕ} → o ≡ count_of (made_of texts (length rows)) → rows' ≡ list_after rows (made_of texts (length rows))
    → told_plainly t ≡ plain_of of_entries o → r ≡ code t.number (t.place % 2 ^ 32) → after ≡ written before (take t.count t.values)
    → IndexTold texts rows rows' before after r
index_delivered texts all rows t e l k c w =
    record { told = delivered of_entries t e (made_small texts all (length rows)) k c w; left = l }
