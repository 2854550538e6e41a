mod Numbers
mod Taking
mod Putting
mod Following
mod RemadeGraphs
mod MappedGraphs
mod ResubstitutedLuts
mod Recipes
mod AigerFiles
mod Hearing
mod Giving
mod Turning
mod Wording
mod Counting
pub mod Concluding
mod Matched
mod Completing
mod Keeping
