pub mod LineValues
pub mod PathTexts
pub mod Said
pub mod Shapes
pub mod Telling
pub mod Told
pub mod ToldParts
