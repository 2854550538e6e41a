pub mod Chains
pub mod Builds
pub mod Cases
pub mod Covered
pub mod Factored
pub mod Steps
pub mod Orders
pub mod Named
