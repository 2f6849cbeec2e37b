pub mod IndexReplies
