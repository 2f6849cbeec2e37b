pub mod CellReplyLaws
