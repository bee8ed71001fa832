pub mod Packed
pub mod Rows
pub mod Groups
pub mod Counting
