-- Where there is room.
use mathlib.Core.Path.{ap, ◌∙◌}
use native.Mathlib.Omega.{arith}
use Prim.Native.Nat.{ℕ, ◌+◌}
use lib.ListN.{length, set}
use mathlib.Core.Bool.{true}
use lib.Seq.{sets}
use Rattle.areas.specs.Memory.{unread}
use Rattle.areas.proofs.MemoryLaws.{add_out, add_small, add_full, add_fits}
use Rattle.areas.proofs.MemoryLaws.{kept_parts}
use Rattle.areas.proofs.append.Goals as goal

pub returns-then-t-ge-AREAS : goal.returns-then-t-ge-AREAS
unfolding unread
returns-then-t-ge-AREAS c = add_out _ _ _ (omega arith)

pub returns-then-space-limit : goal.returns-then-space-limit
unfolding unread
returns-then-space-limit c = add_small _ _ _ (omega arith) (omega arith)

pub returns-then-limit-end : goal.returns-then-limit-end
unfolding unread
returns-then-limit-end c = add_full _ _ _ (omega arith) (omega arith) (omega arith)

pub returns-then-limit-end-2 : goal.returns-then-limit-end-2
unfolding unread
returns-then-limit-end-2 c = add_full _ _ _ (omega arith) (omega arith) (omega arith)

pub returns : goal.returns
returns c = kept_parts true (c.put.ensures ∙ ap (λ (e : ℕ). sets c.args.space.now e c.args.bytes.now) c.number_at-end.ensures)
    (c.keep_at.ensures ∙ ap (λ (e : ℕ). set c.args.ends.now c.args.t (e + length c.args.bytes.now)) c.number_at-end.ensures)
    ∙ add_fits _ c.args.t c.args.bytes.now (omega arith) (omega arith) (omega arith)
