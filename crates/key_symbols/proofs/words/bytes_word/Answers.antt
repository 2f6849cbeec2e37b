use mathlib.Core.Path.{◌≡◌, refl, sym, ◌∙◌}
use Prim.Native.Nat.{◌<◌}
use native.Mathlib.Omega.{arith}
use lib.ListN.{length}
use Rattle.key_symbols.specs.Keyed.{digits_number}
use Rattle.key_symbols.proofs.NumberLaws.{bytes_room, number_more, number_end, number_room}
use Rattle.key_symbols.proofs.words.bytes_word.Goals as goal

pub loop-i-init : goal.loop-i-init
unfolding digits_number
loop-i-init c = (omega arith, omega arith, refl)

pub overflow_mul-n : goal.overflow_mul-n
overflow_mul-n c = record { fits = omega (arith, bytes_room {d = 0} c.loop-i.invariant.1 (omega arith) (omega arith)) }

pub overflow_add-n : goal.overflow_add-n
overflow_add-n c =
    let byte : c.wide.result < 256 = omega (arith, c.wide.ensures, c.shared_slice_known-1.given c.loop-i.i) in
    record { fits = bytes_room c.loop-i.invariant.1 byte (omega arith) }

pub loop-i-preserved : goal.loop-i-preserved
loop-i-preserved c =
    let byte : c.wide.result < 256 = omega (arith, c.wide.ensures, c.shared_slice_known-1.given c.loop-i.i) in (
      omega arith,
      number_room _ c.loop-i.invariant.1 byte,
      rw c.wide.ensures (sym (number_more 256 _ _ _ c.loop-i-test.true) ∙ c.loop-i.invariant.2),
    )

pub returns : goal.returns
returns c = let p : c.loop-i.i ≡ length c.args.bytes.now = omega arith in
    (sym (number_end 256 _ _ _ c.loop-i-test.false) ∙ c.loop-i.invariant.2, rw (← p) c.loop-i.invariant.1)
