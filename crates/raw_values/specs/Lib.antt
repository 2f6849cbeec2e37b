pub mod RawValues
