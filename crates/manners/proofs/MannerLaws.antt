-- The manners of naming, looked up by their code, and the kinds that they ask for.
use mathlib.Core.Path.{◌≡◌, refl}
use mathlib.Core.List.{List, [], ◌∷◌, map}
use Prim.Native.Nat.{ℕ, zero, suc, ◌<◌}
use native.Mathlib.Omega.{arith}
use lib.ListN.{length, get_or, get_or-map}
use Rattle.verdicts.specs.Facts.{Condition, any_row, locatable, whole, numeric, points, Kind, itself, through}
use Rattle.manners.specs.Manners.{Manner, no_manner, second_column, second_condition, manners, manner_at}

-- a list of what the manners have is looked up as they are
pub by_code : {A : Type 0} (f : Manner → A) (code : ℕ) → get_or (map f manners) code (f no_manner) ≡ f (manner_at code)
unfolding manner_at
by_code f code = get_or-map f manners code no_manner

-- in a list the default doesn't matter
pub any_default : (l : List ℕ) (i d e : ℕ) → i < length l → get_or l i d ≡ get_or l i e
any_default [] i d e h = absurd (omega arith)
any_default (a ∷ l) zero d e h = refl
any_default (a ∷ l) (suc i) d e h = any_default l i d e (omega arith)

-- a kind that some naming asks for: a condition on the row itself, or the one on a second row
pub data Asks (k : Kind) : Type 0 where
  of_itself : (c : Condition) → k ≡ itself c → Asks k
  of_second : k ≡ through second_column second_condition → Asks k

pub asks : (code : ℕ) → Asks (manner_at code).kind
unfolding manners manner_at
asks zero = of_itself any_row refl
asks (suc zero) = of_itself locatable refl
asks (suc (suc zero)) = of_itself any_row refl
asks (suc (suc (suc zero))) = of_itself whole refl
asks (suc (suc (suc (suc zero)))) = of_itself any_row refl
asks (suc (suc (suc (suc (suc zero))))) = of_itself any_row refl
asks (suc (suc (suc (suc (suc (suc zero)))))) = of_itself numeric refl
asks (suc (suc (suc (suc (suc (suc (suc zero))))))) = of_second refl
asks (suc (suc (suc (suc (suc (suc (suc (suc zero)))))))) = of_itself whole refl
asks (suc (suc (suc (suc (suc (suc (suc (suc (suc zero))))))))) = of_itself points refl
asks (suc (suc (suc (suc (suc (suc (suc (suc (suc (suc code)))))))))) = of_itself any_row refl
