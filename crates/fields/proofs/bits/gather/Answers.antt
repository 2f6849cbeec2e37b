use mathlib.Core.Path.{◌≡◌, ap, ◌∙◌}
use Prim.Native.Nat.{ℕ, ◌+◌, ◌-◌, ◌*◌, ◌%◌, ◌^◌}
use native.Mathlib.Omega.{arith}
use Rattle.fields.specs.Bits.{number_at}
use Rattle.fields.proofs.BitLaws.{number_fits, number_more}
use Rattle.fields.proofs.bits.gather.Goals as goal

pub loop-left-init : goal.loop-left-init
unfolding number_at
loop-left-init c = (omega arith, omega arith, omega arith, ap (number_at _ _) (none c.args.width))
  where
    none : (n : ℕ) → 0 ≡ n - n
    none n = omega arith

pub overflow_add-acc : goal.overflow_add-acc
overflow_add-acc c =
    let grown : (let a = c.args in let l = c.loop-left in let t = c.least-take.result in (l.acc * 2 ^ t) % 2 ^ 64 + c.part.result ≡ number_at a.p.now (a.first * 8 + a.lead) (a.width - (l.left - t))) = let a = c.args in
    let l = c.loop-left in
    let t = c.least-take.result in
    number_more a.p.now (a.first * 8 + a.lead) (a.width - l.left) t l.byte l.bit l.acc c.part.result
    (omega arith) (omega arith) (omega arith) l.invariant.3 c.part.ensures
    ∙ ap (number_at a.p.now (a.first * 8 + a.lead)) (omega arith) in
    record { fits = rw grown (number_fits _ _ _ (omega arith)) }

pub loop-left-preserved : goal.loop-left-preserved
loop-left-preserved c =
    let grown : (let a = c.args in let l = c.loop-left in let t = c.least-take.result in (l.acc * 2 ^ t) % 2 ^ 64 + c.part.result ≡ number_at a.p.now (a.first * 8 + a.lead) (a.width - (l.left - t))) = let a = c.args in
    let l = c.loop-left in
    let t = c.least-take.result in
    number_more a.p.now (a.first * 8 + a.lead) (a.width - l.left) t l.byte l.bit l.acc c.part.result
    (omega arith) (omega arith) (omega arith) l.invariant.3 c.part.ensures
    ∙ ap (number_at a.p.now (a.first * 8 + a.lead)) (omega arith) in
    (omega arith, omega arith, omega arith, grown)

pub returns : goal.returns
returns c = c.loop-left.invariant.3 ∙ ap (number_at _ _) (omega arith)
