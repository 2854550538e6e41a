pub mod Conditions
pub mod Refusals
pub mod Told
