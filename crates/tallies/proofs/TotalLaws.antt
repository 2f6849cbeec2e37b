-- Laws of tallies.
use mathlib.Core.Path.{◌≡◌}
use mathlib.Core.List.{List}
use Prim.Native.Nat.{ℕ}
use Rattle.tallies.specs.declared.Tally.{Tally}

-- a tally, part by part
pub tally_parts : {a a' : List ℕ} {d d' u u' : ℕ} → a ≡ a' → d ≡ d' → u ≡ u'
    → ◌≡◌ {A = Tally} (record { asked = a; differ = d; unread = u }) (record { asked = a'; differ = d'; unread = u' })
tally_parts p q r = λ i. record { asked = p i; differ = q i; unread = r i }
