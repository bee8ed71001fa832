pub mod Handing
pub mod Noted
