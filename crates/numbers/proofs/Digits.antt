-- Laws of a character that is tested against a range of characters.
use mathlib.Core.Path.{◌≡◌}
use mathlib.Core.Bool.{true, false, and-false}
use Prim.Native.Nat.{ℕ, ◌≤◌, ◌<◌}
use lib.Dec.{leb}
use borrow.Author.Tests.{le-leb, lt-leb}
use Rattle.laws.proofs.Cases.{and_both}
use Rattle.numbers.specs.Number.{between}

module _ (a z c : ℕ) where
  -- a character of the range
  pub inside : a ≤ c → c ≤ z → between a z c ≡ true
  inside h k = and_both (le-leb a c h) (le-leb c z k)

  -- one before it
  pub under : c < a → between a z c ≡ false
  under h = rw (lt-leb a c h)

  -- one behind it
  pub over : z < c → between a z c ≡ false
  over h = rw (lt-leb c z h) (and-false (leb a c))
