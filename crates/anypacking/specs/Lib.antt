pub mod Packings
pub mod Kept
