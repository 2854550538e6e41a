pub mod Levels
pub mod Comparisons
pub mod Seconds
