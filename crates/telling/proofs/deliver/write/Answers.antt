use mathlib.Core.Path.{◌≡◌, refl, sym, ap, ◌∙◌}
use Prim.Native.Nat.{ℕ}
use native.Mathlib.Omega.{arith}
use lib.IntN.{pos}
use lib.ListN.{take, get_or, set}
use lib.Seq.{take_all}
use mir.Syntax.{w64}
use mir.Val.{SFits}
use mir.Facts.{to_z-of_z}
use borrow.Author.Rules.{rules}
use Rattle.telling.specs.Answers.{written}
use Rattle.telling.proofs.TellingLaws.{written_next}
use Rattle.telling.proofs.deliver.write.Goals as goal

pub loop-i-init : goal.loop-i-init
unfolding written
loop-i-init c = (search rules, search rules, refl)

pub returns-then-n-i : goal.returns-then-n-i
returns-then-n-i c = let e : c.loop-i.i ≡ c.args.n = omega arith in
    c.loop-i.invariant.2 ∙ ap (λ (i : ℕ). written c.args.answer.now (take i c.args.these)) e

pub loop-i-preserved : goal.loop-i-preserved
loop-i-preserved c = let f : SFits w64 (get_or c.args.these c.loop-i.i (pos 0)) = search rules in
    (search rules, search rules, ap (set c.loop-i.answer c.loop-i.i) (to_z-of_z f) ∙ written_next c.loop-i.i c.args.answer.now c.args.these c.loop-i.invariant.2 (search rules))

pub returns : goal.returns
returns c = c.loop-i.invariant.2 ∙ ap (written c.args.answer.now) (take_all c.loop-i.i c.args.these (search rules) ∙ sym (take_all c.args.n c.args.these (search rules)))
