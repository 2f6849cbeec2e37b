pub mod ImportPlaces
pub mod StepPlaces
pub mod IndexPlaces
pub mod DeliverLaws
