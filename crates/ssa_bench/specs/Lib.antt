pub mod BenchView
pub mod Benches
pub mod ReadBack
pub mod Taking
pub mod Loading
