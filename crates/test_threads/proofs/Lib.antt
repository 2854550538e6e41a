pub mod Emptied
pub mod Filling
pub mod Holding
pub mod Keyed
pub mod Pinned
pub mod Sources
pub mod Stages
