pub mod RisingLaws
pub mod StepLaws
pub mod SearchLaws
pub mod IndexLaws
pub mod CountLaws
pub mod MakingLaws
