-- A row is on a circle just if its VALID chain returns to it: the number of steps in the definition is large enough.
use mathlib.Core.Path.{◌≡◌, refl, ◌∙◌}
use mathlib.Core.Logic.{◌↔◌}
use mathlib.Core.Bool.{Bool, true, false, ◌||◌}
use mathlib.Core.List.{List, Memᴰ}
use Prim.Native.Nat.{ℕ, zero, suc}
use lib.ListN.{length}
use Rattle.laws.proofs.Cases.{false≢true, or_left, or_right}
use Rattle.laws.proofs.Tests.{any_mem, any_witness, any_same, any_up, keep_mem}
use Rattle.laws.proofs.Rest.{at_rest, Agree}
use Rattle.verdicts.specs.Entries.{Entry}
use Rattle.verdicts.specs.Steps.{twin}
use Rattle.verdicts.specs.Verdicts.{next, leads, circle}
use Rattle.verdicts.specs.Good.{Chain, last, then}

module _ (rows : List Entry) (z : Entry) where
  -- a chain that is found within some number of steps is one
  chain_of_lem : (n : ℕ) (e : Entry) → leads n rows e z ≡ true → Chain rows z e
  unfolding leads
  chain_of_lem zero e t = absurd (false≢true t)
  chain_of_lem (suc n) e t = let w = any_witness (λ o. twin o z || leads n rows o z) (next rows e) t in go (λ o. chain_of_lem n o) w.0 w.1
      (twin w.0 z) refl w.2
    where
      go : ((o : Entry) → leads n rows o z ≡ true → Chain rows z o) → (o : Entry) → Memᴰ o (next rows e)
          → (b : Bool) → twin o z ≡ b → (b || leads n rows o z) ≡ true → Chain rows z e
      go ih o m true q t' = last m q
      go ih o m false q t' = then m (ih o t')

  -- what is found within n steps is found within one more
  leads_up : (n : ℕ) (e : Entry) → leads n rows e z ≡ true → leads (suc n) rows e z ≡ true
  unfolding leads
  leads_up zero e t = absurd (false≢true t)
  leads_up (suc n) e t =
      any_up (λ o. twin o z || leads n rows o z) (λ o. twin o z || leads (suc n) rows o z) (next rows e) (λ o. up (twin o z) (leads_up n o)) t
    where
      up : (b : Bool) {c d : Bool} → (c ≡ true → d ≡ true) → (b || c) ≡ true → (b || d) ≡ true
      up true h t' = refl
      up false h t' = h t'

  -- the next row of a chain is a row of the tables
  pub next_in : (e o : Entry) → Memᴰ o (next rows e) → Memᴰ o rows
  unfolding next
  next_in e o i = (keep_mem _ rows i).0

  -- where one step more finds nothing, the next finds nothing
  leads_stay : (n : ℕ) → Agree (λ o. leads n rows o z) (λ o. leads (suc n) rows o z) rows
      → Agree (λ o. leads (suc n) rows o z) (λ o. leads (suc (suc n)) rows o z) rows
  unfolding leads
  leads_stay n h a m =
      any_same (λ o. twin o z || leads n rows o z) (λ o. twin o z || leads (suc n) rows o z) (next rows a) (λ o i. rw (h o (next_in a o i)))

  -- as many steps as there are rows find what one more would
  leads_rest : (e : Entry) → Memᴰ e rows → (o : Entry) → Memᴰ o (next rows e)
      → (twin o z || leads (length rows) rows o z) ≡ true → leads (length rows) rows e z ≡ true
  unfolding leads
  leads_rest e m o i t =
      at_rest rows (λ n o. leads n rows o z) leads_up leads_stay e m ∙ any_mem (λ o. twin o z || leads (length rows) rows o z) i t

  -- every chain from a row of the tables is found within as many steps as there are rows
  chain_leads : {e : Entry} → Memᴰ e rows → Chain rows z e → leads (length rows) rows e z ≡ true
  chain_leads {e} m (last {o = o} i q) = leads_rest e m o i (or_left (leads (length rows) rows o z) q)
  chain_leads {e} m (then {o = o} i c) = leads_rest e m o i (or_right (twin o z) (chain_leads (next_in e o i) c))

-- 01: "12 VALID chain returns to this row", in however many steps
pub circle_law : (rows : List Entry) (e : Entry) → Memᴰ e rows → (circle rows e ≡ true) ↔ Chain rows e e
unfolding circle
circle_law rows e m = (chain_of_lem rows e (length rows) e, chain_leads rows e m)
