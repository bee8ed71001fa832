pub mod Orders
pub mod Notes
pub mod Over
pub mod Layered
