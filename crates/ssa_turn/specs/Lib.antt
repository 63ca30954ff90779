pub mod Histories
pub mod TablesBack
pub mod LabelReading
pub mod Dated
