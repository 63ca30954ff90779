pub mod LineShapes
pub mod MemberShapes
pub mod Objects
pub mod PathTexts
pub mod RecordTextsSay
pub mod ToldItems
