pub mod Whole
pub mod Exactly
pub mod Counting
