-- What is made, in the words of the call.
use mathlib.Core.Path.{◌≡◌, refl, ap, ◌∙◌}
use mathlib.Core.List.{List}
use Prim.Native.Nat.{ℕ}
use lib.Dec.{ltb}
use lib.ListN.{length}
use Rattle.laws.proofs.Cases.{cond_cases₂}
use Rattle.outcomes.specs.Outcome.{Outcome, refused, answer, and_then}
use Rattle.outcomes.specs.Refusals.{refused_by}
use Rattle.outcomes.specs.declared.Refusal.{Refusal}
use Rattle.packet_index.specs.Index.{Packets}
use Rattle.packet_index.specs.Making.{index_of}
use Rattle.std.specs.Prelude.{Option, Some, None}
use Rattle.index_making.specs.Made.{making, rows_after}
use Rattle.index_calls.specs.IndexCalls.{where_room, made_of, count_of, list_after}

-- the cases of making
unfoldable pub said_making : Option ℕ → Outcome ℕ
said_making (Some count) = answer count
said_making None = refused 3 0

module _ (packets : Packets) (rows : List ℕ) where
  pub making_said : said_making (making packets rows) ≡ count_of (where_room (length rows) (index_of packets))
  unfolding said_making making count_of where_room and_then
  making_said =
      cond_cases₂ (λ (m : Option ℕ) (o : Outcome (List ℕ)). said_making m ≡ count_of o) (ltb (length rows) (length (index_of packets))) (λ _. refl) (λ _. refl)

  pub rows_after_lem : rows_after packets rows ≡ list_after rows (where_room (length rows) (index_of packets))
  unfolding rows_after list_after where_room
  rows_after_lem =
      cond_cases₂ (λ (l : List ℕ) (o : Outcome (List ℕ)). l ≡ list_after rows o) (ltb (length rows) (length (index_of packets))) (λ _. refl) (λ _. refl)

-- the same of tables that were loaded, or refused
module _ (texts : List (List ℕ)) {o : Outcome (List ℕ)} where
  pub made_count : {m : Outcome ℕ} (room : ℕ) → m ≡ count_of o → o ≡ made_of texts room → m ≡ count_of (made_of texts room)
  made_count room e q = e ∙ ap count_of q

  pub made_list : (before : List ℕ) {after : List ℕ} (room : ℕ) → after ≡ list_after before o → o ≡ made_of texts room
      → after ≡ list_after before (made_of texts room)
  made_list before room e q = e ∙ ap (list_after before) q

module _ (texts : List (List ℕ)) (refusal : Refusal) (room : ℕ) (e : refused_by refusal ≡ made_of texts room) where
  pub refused_count : refused_by refusal ≡ count_of (made_of texts room)
  unfolding count_of and_then refused_by
  refused_count = rw (← e) refl

  pub refused_list : (before : List ℕ) → before ≡ list_after before (made_of texts room)
  unfolding list_after refused_by
  refused_list before = rw (← e) refl
