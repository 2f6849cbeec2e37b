pub mod InsideLaws
