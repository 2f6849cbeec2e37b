-- Both namings, where the chain goes through them.
use mathlib.Core.Path.{◌≡◌, ap, ◌∙◌}
use mathlib.Core.Bool.{Bool}
use Prim.Native.Nat.{ℕ}
use Rattle.manners.specs.Manners.{manner_at}
use Rattle.named_rows.proofs.NameLaws.{follows_sound, follows_not}
use Rattle.named_rows.proofs.follows.Goals as goal

chained : (a : Bool) (k m : ℕ) → a ≡ (manner_at k).chained → k ≡ m → a ≡ (manner_at m).chained
chained a k m e q = e ∙ ap (λ (x : ℕ). (manner_at x).chained) q

pub returns-then-names : goal.returns-then-names
returns-then-names c = follows_sound _ _ _ _ _ _ _
    (chained _ _ _ c.naming_chained-one.ensures c.byte.ensures)
    (chained _ _ _ c.naming_chained-two.ensures c.byte-2.ensures) _
    c.names.ensures c.if-names.true _ c.is_sound.ensures

pub returns : goal.returns
returns c = follows_not _ _ _ _ _ _ _
    (chained _ _ _ c.naming_chained-one.ensures c.byte.ensures)
    (chained _ _ _ c.naming_chained-two.ensures c.byte-2.ensures) _ c.names.ensures
    c.if-names.false
