-- The place of every refusal of an import is small.
use mathlib.Core.Path.{◌≡◌}
use mathlib.Core.List.{List}
use Prim.Native.Nat.{ℕ}
use lib.Dec.{eqb, ltb}
use lib.ListN.{length}
use Rattle.laws.proofs.Cases.{cond_cases}
use Rattle.verdicts.specs.Answer.{Imported, too_long, too_many_rows, import_of}
use Rattle.verdicts.specs.Entries.{all_rows, table_count}
use Rattle.refusal_places.specs.Small.{Small}
use Rattle.refusal_places.proofs.SmallLaws.{small_answer, no_place, small_place}
use Rattle.refusal_places.proofs.TablePlaces.{long_small, many_small}
use Rattle.plain_answers.specs.Values.{counts_of}

pub import_small : (texts : List (List ℕ)) → length texts ≡ table_count → (room : ℕ) → Small (counts_of (import_of texts room))
unfolding import_of counts_of
import_small texts all room =
    cond_cases (λ (x : Imported). Small (counts_of x)) (eqb (too_long texts) 0)
    (λ _. cond_cases (λ (x : Imported). Small (counts_of x)) (eqb (too_many_rows texts) 0)
    (λ _. cond_cases (λ (x : Imported). Small (counts_of x)) (ltb room (length (all_rows texts))) (λ _. no_place 3) (λ _. small_answer _))
    (λ _. small_place 2 (many_small texts all)))
    (λ _. small_place 1 (long_small texts all))
