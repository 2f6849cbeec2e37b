-- What is read is put behind the bytes that were moved.
use Rattle.std.proofs.Common.{sym, subst}
use Rattle.std.specs.Io.KnownBytes.{Consumes}
use Rattle.archives.proofs.BlockLaws.{moved_within, refilled, part_behind}
use Rattle.archives.proofs.refill.Goals as goal

pub slice_bounds-fill-count : goal.slice_bounds-fill-count
slice_bounds-fill-count g c = moved_within c.move_rest-kept.ensures

pub slice_bounds-fill-start : goal.slice_bounds-fill-start
slice_bounds-fill-start g c = moved_within c.move_rest-kept.ensures

pub returns-clause-refilled : goal.returns-clause-refilled
returns-clause-refilled g c = refilled c.move_rest-kept.ensures c.fill-read.result c.fill-read.new.buffer c.fill-read.ensures.in_bounds.0

pub returns-clause-bytes : goal.returns-clause-bytes
returns-clause-bytes g c =
    subst (Consumes _ _) (sym (part_behind c.move_rest-kept.ensures c.fill-read.result _ c.fill-read.new.buffer c.fill-read.ensures.in_bounds.0)) c.fill-read.ensures.bytes
