pub mod OfferedLaws
