pub mod Staying
mod NewLevels
mod Compared
pub mod Deeper
