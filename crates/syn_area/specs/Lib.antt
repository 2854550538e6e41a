pub mod Areas
pub mod Kept
pub mod Plain
