pub mod Sites
pub mod Writing
pub mod Following
pub mod Testing
pub mod Holding
pub mod Filling
pub mod Parts
pub mod Reading
