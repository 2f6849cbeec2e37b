-- Which rows share no key.
use Rattle.std.specs.Prelude.{ℕ, ◌&&◌, List, eqb, leb, get_or}
use Rattle.laws.specs.Prefix.{flag}
use Rattle.passes.specs.Marked.{under}

-- 1 where the row is well-formed and at most one row, itself, holds each of its keys
unfoldable pub sound_of : (formed holders1 holders2 : ℕ) → ℕ
sound_of formed holders1 holders2 = flag (eqb formed 1 && (leb holders1 1 && leb holders2 1))

-- by the number of holders of each id. The id of no key is past its end, where no holders stand
unfoldable pub sound_at : (formed key1 key2 holders : List ℕ) → ℕ → ℕ
sound_at formed key1 key2 holders i = sound_of (get_or formed i 0) (under holders key1 i) (under holders key2 i)
