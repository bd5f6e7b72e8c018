pub mod Parts
pub mod Lines
pub mod Reads
