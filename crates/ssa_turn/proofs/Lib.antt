pub mod Forgetting
pub mod InARow
pub mod KeptRecords
pub mod LabelTexts
