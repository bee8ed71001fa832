pub mod Wide
pub mod Packing
pub mod Formats
pub mod Names
pub mod Made
pub mod Six
