pub mod Resting
pub mod Rewriting
pub mod Rounds
