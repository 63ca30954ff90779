pub mod Members
pub mod Named
pub mod Names
pub mod formers
pub mod ShortTexts
pub mod SmallTexts
pub mod Texts
