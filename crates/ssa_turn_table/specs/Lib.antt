pub mod Tables
pub mod Changing
pub mod Going
pub mod Coming
pub mod Turning
pub mod Copies
pub mod Writing
