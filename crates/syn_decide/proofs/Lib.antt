pub mod Folding
pub mod Tabling
pub mod Using
pub mod Answering
pub mod Least
pub mod Walking
pub mod Linking
pub mod Ranking
pub mod Hitting
pub mod Counting
pub mod Leaves
pub mod Steps
pub mod Choices
pub mod Sweeping
pub mod Fitting
pub mod Enough
mod HitLookups
