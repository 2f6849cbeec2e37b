use Prim.Native.Nat.{◌+◌}
use Rattle.escapes.specs.Escapes.{before, byte_at}
use Rattle.escapes.proofs.EscapeLaws.{joined_end, byte_inside}
use mathlib.Core.Path.{◌≡◌, refl, sym, ◌∙◌, ap}
use native.Mathlib.Omega.{arith}
use lib.ListN.{take, drop, length-set}
use Rattle.escapes.specs.Escapes.{unescaped, read_in}
use Rattle.escapes.proofs.EscapeLaws.{joined, joined_first, joined_more, joined_none, byte_in_lem, byte_none}
use Rattle.escapes.proofs.EscapeLaws.{escape_here, plain_here, unescaped_end, fits, fits_not}
use Rattle.escapes.proofs.unescape.Goals as goal

pub returns-then-out-raw : goal.returns-then-out-raw
unfolding read_in
returns-then-out-raw c = record { out_after = sym (fits_not _ _ _ (omega arith)); no_more_than = tt }

pub loop-i-init : goal.loop-i-init
loop-i-init c = (omega arith, omega arith, refl, omega arith, joined_first _)

pub returns-then-byte-gt255 : goal.returns-then-byte-gt255
unfolding read_in
returns-then-byte-gt255 c = let l = c.loop-i in
    let raw = c.args.raw.now in record {
      out_after = sym (fits _ raw _ (omega arith) ∙ sym l.invariant.4
          ∙ joined_none _ (escape_here raw l.i (omega arith) c.if-c-eq92.true ∙ byte_none (byte_at raw (l.i + 1)) _ (omega arith)));
      no_more_than = tt;
    }

pub overflow_add-i-then-c-eq92 : goal.overflow_add-i-then-c-eq92
overflow_add-i-then-c-eq92 c = let l = c.loop-i in
    let raw = c.args.raw.now in
    omega (arith, byte_inside raw (l.i + 1) (omega arith))

pub loop-i-preserved-then-c-eq92 : goal.loop-i-preserved-then-c-eq92
loop-i-preserved-then-c-eq92 c = let l = c.loop-i in
    let raw = c.args.raw.now in
    let p : unescaped (drop l.i raw) ≡ before c.byte_at-byte.result (unescaped (drop (l.i + 1 + 2) raw)) =
    escape_here raw l.i (omega arith) c.if-c-eq92.true ∙ byte_in_lem (byte_at raw (l.i + 1)) _ (omega arith)
    ∙ ap (λ b. before b (unescaped (drop (l.i + 1 + 2) raw))) (sym c.byte_at-byte.ensures.0) in (
      omega (arith, byte_inside raw (l.i + 1) (omega arith)),
      omega arith,
      simp length-set l.invariant.2,
      l.invariant.3,
      sym (joined_more l.out l.n _ _ (omega arith)) ∙ ap (joined (take l.n l.out)) (sym p) ∙ l.invariant.4,
    )

pub loop-i-preserved : goal.loop-i-preserved
loop-i-preserved c = let l = c.loop-i in
    let raw = c.args.raw.now in
    let p : unescaped (drop l.i raw) ≡ before c.plain.result (unescaped (drop (l.i + 1) raw)) =
    plain_here raw l.i (omega arith) c.if-c-eq92.false ∙ ap (λ b. before b (unescaped (drop (l.i + 1) raw))) (sym c.plain.ensures) in (
      omega arith,
      omega arith,
      simp length-set l.invariant.2,
      l.invariant.3,
      sym (joined_more l.out l.n _ _ (omega arith)) ∙ ap (joined (take l.n l.out)) (sym p) ∙ l.invariant.4,
    )

pub returns : goal.returns
unfolding read_in
returns c = let l = c.loop-i in
    let raw = c.args.raw.now in record { out_after = sym (joined_end (take l.n l.out) (unescaped_end raw l.i (omega arith))) ∙ l.invariant.4 ∙ sym (fits _ raw _ (omega arith)); no_more_than = omega arith }
