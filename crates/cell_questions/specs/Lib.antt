pub mod CellReplies
