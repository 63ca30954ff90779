pub mod Calls
pub mod Kept
pub mod Stopping
pub mod Unchanged
