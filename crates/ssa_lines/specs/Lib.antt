pub mod Held
pub mod Reading
pub mod Loading
pub mod Saving
pub mod FaultTexts
