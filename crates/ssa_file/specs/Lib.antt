pub mod Recording
pub mod Heads
