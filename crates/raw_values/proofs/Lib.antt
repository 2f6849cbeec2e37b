pub mod RawLaws
