-- Machinery: that these types can be what a contract sees of a struct.
pub mod Codes
pub mod BenchCodes
pub mod RecordCodes
