use Rattle.escapes.specs.Escapes.{before, byte_at}
use Rattle.escapes.proofs.EscapeLaws.{joined_end, byte_inside}
use Prim.Native.Nat.{◌+◌}
use mathlib.Core.Path.{◌≡◌, refl, sym, ◌∙◌, ap}
use native.Mathlib.Omega.{arith}
use lib.ListN.{take, drop, length-set}
use Rattle.escapes.specs.Escapes.{hex_bytes, read_in}
use Rattle.escapes.proofs.EscapeLaws.{joined, joined_first, joined_more, joined_none, byte_in_lem, byte_none}
use Rattle.escapes.proofs.EscapeLaws.{blank_here, pair_here, hex_end, fits, fits_not}
use Rattle.escapes.proofs.read_hex.Goals as goal

pub returns-then-out-raw : goal.returns-then-out-raw
unfolding read_in
returns-then-out-raw c = sym (fits_not _ _ _ (omega arith))

pub loop-i-init : goal.loop-i-init
loop-i-init c = (omega arith, omega arith, refl, omega arith, joined_first _)

pub loop-i-preserved-then-raw-i-eq32 : goal.loop-i-preserved-then-raw-i-eq32
loop-i-preserved-then-raw-i-eq32 c = let l = c.loop-i in
    let raw = c.args.raw.now in (
      omega arith,
      omega arith,
      l.invariant.2,
      l.invariant.3,
      ap (joined (take l.n l.out)) (sym (blank_here raw l.i (omega arith) c.if-raw-i-eq32.true)) ∙ l.invariant.4,
    )

pub returns-then-byte-gt255 : goal.returns-then-byte-gt255
unfolding read_in
returns-then-byte-gt255 c = let l = c.loop-i in
    let raw = c.args.raw.now in
    sym (fits _ raw _ (omega arith) ∙ sym l.invariant.4
    ∙ joined_none _ (pair_here raw l.i (omega arith) c.if-raw-i-eq32.false ∙ byte_none (byte_at raw l.i) _ (omega arith)))

pub overflow_add-i-else-raw-i-eq32 : goal.overflow_add-i-else-raw-i-eq32
overflow_add-i-else-raw-i-eq32 c = let l = c.loop-i in
    let raw = c.args.raw.now in
    omega (arith, byte_inside raw l.i (omega arith))

pub loop-i-preserved : goal.loop-i-preserved
loop-i-preserved c = let l = c.loop-i in
    let raw = c.args.raw.now in
    let p : hex_bytes (drop l.i raw) ≡ before c.byte_at-byte.result (hex_bytes (drop (l.i + 2) raw)) =
    pair_here raw l.i (omega arith) c.if-raw-i-eq32.false ∙ byte_in_lem (byte_at raw l.i) _ (omega arith)
    ∙ ap (λ b. before b (hex_bytes (drop (l.i + 2) raw))) (sym c.byte_at-byte.ensures.0) in (
      omega (arith, byte_inside raw l.i (omega arith)),
      omega arith,
      simp length-set l.invariant.2,
      l.invariant.3,
      sym (joined_more l.out l.n _ _ (omega arith)) ∙ ap (joined (take l.n l.out)) (sym p) ∙ l.invariant.4,
    )

pub returns : goal.returns
unfolding read_in
returns c = let l = c.loop-i in
    let raw = c.args.raw.now in
    sym (joined_end (take l.n l.out) (hex_end raw l.i (omega arith))) ∙ l.invariant.4 ∙ sym (fits _ raw _ (omega arith))
