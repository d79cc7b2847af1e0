pub mod StepLaws
pub mod Meaning
