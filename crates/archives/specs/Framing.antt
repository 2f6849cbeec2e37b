-- Where the packet that starts at a place of bytes ends, if it is there to its end.
use Rattle.std.specs.Prelude.{ℕ, ◌+◌, cond, List, drop, Option, Some, None}
use Rattle.archives.specs.Packets.{length_said, is_complete}

unfoldable pub framed_at : List ℕ → ℕ → Option ℕ
framed_at bytes at = cond (is_complete (drop at bytes)) (Some (at + length_said (drop at bytes))) None
