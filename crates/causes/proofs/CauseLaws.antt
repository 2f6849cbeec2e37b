-- Causes and steps fit together: every row that a verdict speaks of is one step of demand 3 away.
use mathlib.Core.Path.{◌≡◌, ap}
use mathlib.Core.Bool.{Bool, true, false, cond, ◌&&◌, ◌||◌, or-false}
use mathlib.Core.List.{List, [], ◌∷◌, Memᴰ}
use Prim.Native.Nat.{ℕ}
use lib.Dec.{eqb}
use lib.ListN.{length}
use Rattle.laws.proofs.Cases.{false≢true, and_left, or_right}
use Rattle.laws.proofs.Tests.{keep_mem, keep_same}
use Rattle.verdicts.specs.Facts.{Count}
use Rattle.verdicts.specs.Entries.{Entry, facts}
use Rattle.verdicts.specs.Steps.{twin, belongs, rivals, names, counts, step, Reach, one}
use Rattle.verdicts.specs.Verdicts.{sound, tally, follows, next, circle, verdict}
use Rattle.verdicts.specs.Good.{Chain, last, then}
use Rattle.verdicts.proofs.StepLaws.{rival_step, column_step, chain_step}
use Rattle.verdicts.proofs.CircleLaw.{circle_law}
use Rattle.causes.specs.Causes.{reason_of, column_of_verdict, shares, counted, named, follower, speaks_of, causes}

-- to a row of a group that it counts
counted_step : (e o : Entry) → counts e o ≡ true → step e o ≡ true
unfolding step
counted_step e o t = or_right (rivals e o || names e o) t

module _ (rows : List Entry) (e o : Entry) (column : ℕ) where
  by_reason : (a b c d : Bool)
      → cond a (shares e o) (cond b (counted rows e o) (cond c (named column e o) (cond d (follower rows e o) false))) ≡ true
      → step e o ≡ true
  by_reason true b c d t = rival_step e o t
  by_reason false true c d t = counted_step e o (and_left _ _ t)
  by_reason false false true d t = column_step column e o t
  by_reason false false false true t = chain_step e o (and_left _ _ t)
  by_reason false false false false t = absurd (false≢true t)

-- THE LAW OF CAUSES: what a verdict speaks of is one step away
pub one_step : (rows : List Entry) (v : ℕ) (e o : Entry) → speaks_of rows v e o ≡ true → step e o ≡ true
unfolding speaks_of
one_step rows v e o t =
    by_reason rows e o (column_of_verdict v) (eqb (reason_of v) 9) (eqb (reason_of v) 10) (eqb (reason_of v) 11) (eqb (reason_of v) 12) t

-- and so is reached: where a cause is replaced, demand 3 lets the verdict change
pub cause_reached : (rows : List Entry) (e : Entry) {o : Entry} → Memᴰ o (causes rows e) → Reach rows o e
unfolding causes
cause_reached rows e {o} m =
    let k = keep_mem (speaks_of rows (verdict rows e) e) rows m in
    one k.0 (one_step rows (verdict rows e) e o k.1)

module _ (rows : List Entry) (e : Entry) where
  -- reason 10: there are as many causes as rows were counted
  pub counted_is : (c : Count) → (facts e).counts ≡ c ∷ [] → reason_of (verdict rows e) ≡ 10 → length (causes rows e) ≡ tally rows c.group
  unfolding causes speaks_of counts tally
  counted_is c q r =
      ap length
      (keep_same (speaks_of rows (verdict rows e) e) (λ o. belongs o c.group && sound rows o) rows
      (λ o m. rw (r, q) (ap (λ (t : Bool). t && sound rows o) (or-false (belongs o c.group)))))

  -- reason 12: the causes are the next row of the chain
  pub next_is : reason_of (verdict rows e) ≡ 12 → causes rows e ≡ next rows e
  unfolding causes speaks_of next
  next_is r = keep_same (speaks_of rows (verdict rows e) e) (λ o. follows e o && sound rows o) rows (λ o m. rw r)

  -- from a row the chain comes to e: it is e, or one or more steps lead there
  pub data Back (o : Entry) : Type 0 where
    here : twin o e ≡ true → Back o
    onward : Chain rows e o → Back o

  -- and from there it comes back to the row
  pub comes_back : Memᴰ e rows → circle rows e ≡ true → reason_of (verdict rows e) ≡ 12 → (o : Entry) × Memᴰ o (causes rows e) × Back o
  comes_back m t r = rw (next_is r) (go ((circle_law rows e m).0 t))
    where
      go : Chain rows e e → (o : Entry) × Memᴰ o (next rows e) × Back o
      go (last {o = o} i q) = (o, i, here q)
      go (then {o = o} i c) = (o, i, onward c)
