-- By whether the row is open.
use mathlib.Core.List.{List}
use Prim.Native.Nat.{ℕ}
use lib.ListN.{length}
use Rattle.escapes.specs.Escapes.{unescaped, where_room, NoMoreThan, ended_row}
use Rattle.std.specs.Prelude.{Some}
use Rattle.escapes.proofs.EscapeLaws.{open-some, open-read, ended_read}
use mathlib.Core.Path.{sym, ◌∙◌, ap}
use native.Mathlib.Omega.{arith}
use Rattle.escapes.specs.Escapes.{read_in}
use Rattle.escapes.proofs.EscapeLaws.{row_fits_not}
use Rattle.escapes.proofs.unescape_row.Goals as goal

pub returns-then-out-raw : goal.returns-then-out-raw
unfolding read_in
returns-then-out-raw c = sym (row_fits_not (length c.args.out.now) c.args.raw.now _ (omega arith))

pub overflow_sub-raw : goal.overflow_sub-raw
overflow_sub-raw c = open-some _ (sym c.is_open.ensures ∙ c.if-is_open.true)

pub returns-then-is_open : goal.returns-then-is_open
returns-then-is_open c = c.unescape.ensures.out_after ∙ ap (λ (l : List ℕ). where_room (length c.args.out.now) l (unescaped l)) c.part.ensures
    ∙ open-read (length c.args.out.now) c.args.raw.now (omega arith) (sym c.is_open.ensures ∙ c.if-is_open.true)

pub returns-in_err-n : goal.returns-in_err-n
unfolding read_in ended_row
returns-in_err-n c = let e = rw c.in_err-n.was at c.unescape-2.ensures.out_after in
    rw c.from_residual.ensures
    (ended_read (length c.args.out.now) c.args.raw.now (omega arith) (sym c.is_open.ensures ∙ c.if-is_open.false) e)

pub end_row-requires : goal.end_row-requires
end_row-requires c = let g : NoMoreThan (Some c.in_ok-n.n) (length c.args.raw.now) = rw c.in_ok-n.was at c.unescape-2.ensures.no_more_than in
    omega (arith, g)

pub returns : goal.returns
unfolding read_in
returns c = let e = rw c.in_ok-n.was at c.unescape-2.ensures.out_after in
    c.end_row.ensures ∙ ended_read (length c.args.out.now) c.args.raw.now (omega arith) (sym c.is_open.ensures ∙ c.if-is_open.false) e
