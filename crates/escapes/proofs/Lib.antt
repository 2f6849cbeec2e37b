pub mod EscapeLaws
