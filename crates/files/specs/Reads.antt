-- What is known of a file's reading, whatever the system answers.
use Rattle.std.specs.Prelude.{ℕ, ◌≤◌, ◌≡◌, List, length, Option, Some, None, Result, Ok, Err}
use Rattle.std.specs.declared.io.ErrorKind.{ErrorKind}

-- how many bytes were read; none of a file that isn't there; or the system's error
abbrev pub Got : Type 0
Got = Result (Option ℕ) ErrorKind

-- the bytes that were read have room
abbrev pub Within : Got → ℕ → Type 0
Within (Ok (Some n)) room = n ≤ room
Within (Ok None) room = Unit {0}
Within (Err e) room = Unit {0}

-- a buffer before and after a file is read into it: the bytes that were read are in it; of a file that isn't there none
-- is put there; one that failed may have left any
abbrev pub ReadInto : Got → (before after : List ℕ) → Type 0
ReadInto (Ok (Some n)) before after = n ≤ length after
ReadInto (Ok None) before after = after ≡ before
ReadInto (Err e) before after = Unit {0}
