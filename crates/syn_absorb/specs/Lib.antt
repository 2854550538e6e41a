pub mod Costs
pub mod Flips
pub mod Needed
pub mod Nets
pub mod Reaching
pub mod Rebuilding
