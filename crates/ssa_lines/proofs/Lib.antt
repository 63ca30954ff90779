pub mod DeviceFacts
pub mod ReadingFacts
pub mod LoadingFacts
pub mod SavingFacts
pub mod FaultTexts
pub mod Lines
