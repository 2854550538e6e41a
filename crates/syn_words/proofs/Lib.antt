pub mod Values
pub mod Deciding
