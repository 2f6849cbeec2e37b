pub mod ShiftLaws
pub mod MakeLaws
pub mod TakenLaws
