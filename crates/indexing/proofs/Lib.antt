pub mod IndexingLaws
