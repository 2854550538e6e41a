mod Bucketing
mod Pushing
pub mod Orders
pub mod Rising
pub mod Joining
pub mod Looking
pub mod LevelLaws
mod Turns
mod Visits
mod Walked
mod Renumbered
mod Counted
mod Kept
mod HashedAgain
pub mod Dropped
pub mod Compacted
