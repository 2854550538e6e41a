pub mod Covered
pub mod Replaced
