pub mod Runs
pub mod Sequential
pub mod Sweeping
pub mod Rounds
pub mod Laws
pub mod Code
pub mod Keys
