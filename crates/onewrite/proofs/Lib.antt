pub mod Fitting
pub mod Telling
pub mod Writing
