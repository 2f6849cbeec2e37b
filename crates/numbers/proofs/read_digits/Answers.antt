use borrow.Author.Rules.{rules}
use native.Mathlib.Omega.{arith}
use mathlib.Core.Path.{refl, sym, ◌∙◌}
use Prim.Native.Nat.{◌+◌, ◌*◌, ◌^◌, ◌<◌}
use Rattle.numbers.proofs.Magnitudes.{in_word, digit_end, digit_none, digit_more, digit_large}
use Rattle.numbers.proofs.read_digits.Goals as goal

pub loop-i-init : goal.loop-i-init
loop-i-init c = (search rules, refl)

pub returns-then-base-d : goal.returns-then-base-d
returns-then-base-d c = sym (digit_none _ _ c.loop-i.magnitude c.args.text.now c.loop-i.i (omega arith) (omega arith)) ∙ c.loop-i.invariant.1

pub overflow_mul-magnitude : goal.overflow_mul-magnitude
overflow_mul-magnitude c =
    let word : c.loop-i.magnitude * c.args.base + c.digit-d.result < 2 ^ 64 = in_word (omega arith) (omega arith) (omega arith) in
    omega (arith, word)

pub overflow_add-magnitude : goal.overflow_add-magnitude
overflow_add-magnitude c =
    let word : c.loop-i.magnitude * c.args.base + c.digit-d.result < 2 ^ 64 = in_word (omega arith) (omega arith) (omega arith) in
    omega (arith, word)

pub loop-i-preserved-then-magnitude-lt-LIMIT : goal.loop-i-preserved-then-magnitude-lt-LIMIT
loop-i-preserved-then-magnitude-lt-LIMIT c = (
  omega arith,
  rw c.digit-d.ensures
      (sym (digit_more _ _ c.loop-i.magnitude c.args.text.now c.loop-i.i (omega arith) (omega arith)) ∙ c.loop-i.invariant.1),
)

pub loop-i-preserved : goal.loop-i-preserved
loop-i-preserved c = (
  omega arith,
  sym (digit_large _ _ c.loop-i.magnitude c.args.text.now c.loop-i.i (omega arith) (omega arith) (omega arith)) ∙ c.loop-i.invariant.1,
)

pub returns : goal.returns
returns c = c.signed.ensures ∙ sym (digit_end _ _ c.loop-i.magnitude _ c.loop-i.i (omega arith)) ∙ c.loop-i.invariant.1
