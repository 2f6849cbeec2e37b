pub mod NamedRows
