pub mod Laying
pub mod Taking
pub mod Sizing
