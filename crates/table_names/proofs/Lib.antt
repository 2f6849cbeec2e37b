pub mod HeadingLaws
