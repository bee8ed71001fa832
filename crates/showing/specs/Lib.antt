pub mod Recorder
pub mod Heads
