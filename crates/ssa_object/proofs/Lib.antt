pub mod Named
pub mod ShownMembers
pub mod Values
