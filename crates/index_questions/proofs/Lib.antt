pub mod IndexReplyLaws
