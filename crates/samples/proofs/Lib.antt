pub mod Timing
pub mod Dividing
pub mod Bounded
