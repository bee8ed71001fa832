pub mod Words
pub mod Make
pub mod Lawful
pub mod Blanks
pub mod Parts
