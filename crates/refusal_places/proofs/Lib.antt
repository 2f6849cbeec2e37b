pub mod SmallLaws
pub mod GoodRows
pub mod RowRanges
pub mod PacketPlaces
pub mod TablePlaces
pub mod StepPlaces
pub mod CallPlaces
