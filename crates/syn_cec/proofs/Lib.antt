pub mod Joined
pub mod Padding
pub mod Pairs
