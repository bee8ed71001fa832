pub mod Rows
pub mod Table
pub mod Six
