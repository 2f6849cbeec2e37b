pub mod PidLaws
