pub mod LocatedLaws
