-- What was read, or that it was not.
use Rattle.vectors.specs.Files.{read, not_read}
use Rattle.vectors.proofs.ask_into.Goals as goal

pub returns-then-count-lt-MOST_TEXT : goal.returns-then-count-lt-MOST_TEXT
returns-then-count-lt-MOST_TEXT g c = read _ _ c.ask_text.ensures

pub returns-else-count-lt-MOST_TEXT : goal.returns-else-count-lt-MOST_TEXT
returns-else-count-lt-MOST_TEXT g c = not_read c.unread_file.ensures

pub returns-in-Ok-None : goal.returns-in-Ok-None
returns-in-Ok-None g c = not_read c.unread_file-in-Ok-None.ensures

pub returns-in-Err : goal.returns-in-Err
returns-in-Err g c = not_read c.unread_file-in-Err.ensures
