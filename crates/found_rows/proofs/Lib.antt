pub mod DivideLaws
