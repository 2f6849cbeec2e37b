pub mod Step
pub mod StepExamples
