pub mod HeadFacts
pub mod Walking
pub mod RecordingFacts
pub mod LineTexts
