-- What a function says of numbers that passed through words, it says of the numbers.
use mathlib.Core.Path.{◌≡◌, ap, ap₂, ◌∙◌}
use Prim.Native.Nat.{◌^◌, ◌<◌}
use lib.IntN.{ℤ}
use lib.Signed.{mag}
use mir.Syntax.{w64}
use mir.Val.{to_z, of_z}
use Rattle.laws.proofs.Words.{through_word}

module _ {A : Type 0} where
  pub of_word : (f : ℤ → A) (z : ℤ) {r : A} → mag z < 2 ^ 63 → r ≡ f (to_z w64 (of_z w64 z)) → r ≡ f z
  of_word f z h e = e ∙ ap f (through_word z h)

  pub of_words : (f : ℤ → ℤ → A) (y z : ℤ) {r : A} → mag y < 2 ^ 63 → mag z < 2 ^ 63 → r ≡ f (to_z w64 (of_z w64 y)) (to_z w64 (of_z w64 z)) → r ≡ f y z
  of_words f y z h k e = e ∙ ap₂ f (through_word y h) (through_word z k)
