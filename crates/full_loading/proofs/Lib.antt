pub mod FullLoadLaws
