-- Where a row's own columns tell a position, its verdict is that very reason: every other row has position 0.
use mathlib.Core.Path.{◌≡◌, refl, sym, ◌∙◌}
use mathlib.Core.Bool.{true}
use mathlib.Core.List.{List}
use Prim.Native.Nat.{ℕ, zero, suc, ◌/◌}
use Rattle.laws.specs.Lists.{or_else}
use Rattle.laws.proofs.Cases.{false≢true}
use Rattle.schemas.specs.Positions.{tells_position}
use Rattle.formed.specs.Formed.{formed}
use Rattle.verdicts.specs.Entries.{Entry, own, carried_at}
use Rattle.verdicts.specs.Verdicts.{judge, within, verdict}
use Rattle.verdicts.specs.Places.{line_at, entry_at, verdict_at}
use Rattle.verdicts.proofs.EntryLaws.{own_reading}

-- a reason of a row's own columns comes before all others
own_first : (rows : List Entry) (e : Entry) → (own e.reading ≡ 0 → ⊥) → verdict rows e ≡ own e.reading
unfolding verdict within judge
own_first rows e n = go (own e.reading) _ n
  where
    go : (a b : ℕ) → (a ≡ 0 → ⊥) → or_else a b ≡ a
    go zero b n = absurd (n refl)
    go (suc a) b n = refl

pub told_by_verdict : (texts : List (List ℕ)) (u r : ℕ) → tells_position (formed (carried_at u) (line_at texts u r) / 256) ≡ true
    → verdict_at texts u r ≡ formed (carried_at u) (line_at texts u r)
unfolding verdict_at entry_at
told_by_verdict texts u r t =
    let e = own_reading (carried_at u) (line_at texts u r) in
    own_first _ (entry_at texts u r) (λ z. absurd (false≢true (rw (sym e ∙ z) at t))) ∙ e
