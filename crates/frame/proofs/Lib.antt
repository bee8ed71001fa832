pub mod Testing
pub mod Judging
pub mod Blanking
pub mod Coming
pub mod Filling
