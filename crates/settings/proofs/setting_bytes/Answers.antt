-- By the place in the list of settings.
use native.Mathlib.Omega.{arith}
use Rattle.settings.proofs.SettingLaws.{bytes_row, bytes_digits, bytes_text}
use borrow.Author.Rules.{rules}
use Rattle.settings.proofs.setting_bytes.Goals as goal

pub returns-then-k-lt-PACKET : goal.returns-then-k-lt-PACKET
returns-then-k-lt-PACKET c = bytes_row _ _ _ c.unescape_row.ensures (search rules) (omega arith)

pub returns-then-k-lt-FILL : goal.returns-then-k-lt-FILL
returns-then-k-lt-FILL c = bytes_digits _ _ _ c.read_hex.ensures (search rules) (omega arith) (omega arith)

pub returns : goal.returns
returns c = bytes_text _ _ _ c.unescape.ensures.out_after (search rules) (omega arith)
