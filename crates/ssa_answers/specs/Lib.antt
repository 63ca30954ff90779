pub mod Changes
pub mod Faults
pub mod Refusals
pub mod Commands
pub mod Replies
pub mod Asked
