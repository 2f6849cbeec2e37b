-- No such pair of codes, or bits.
use mathlib.Core.Path.{◌≡◌, refl, sym, ap, ◌∙◌}
use mathlib.Core.Bool.{Bool, true, false, not}
use Prim.Native.Nat.{ℕ}
use Rattle.std.specs.Prelude.{Option, Some, None, is_some}
use Rattle.laws.proofs.Cases.{false≢true}
use Rattle.contradictions.specs.Contradictions.{is_refused}
use Rattle.widths.specs.Width.{bits_of}
use Rattle.contradictions.proofs.has_no_width.Goals as goal

none_refused : (width : Option ℕ) (b : Bool) → is_some width ≡ not b → b ≡ is_refused (bits_of width)
unfolding is_refused bits_of
none_refused (Some bits) true e = absurd (false≢true (sym e))
none_refused (Some bits) false e = refl
none_refused None true e = refl
none_refused None false e = absurd (false≢true e)

pub returns : goal.returns
returns c = none_refused _ _ c.is_none.ensures ∙ ap is_refused c.width_of.ensures
