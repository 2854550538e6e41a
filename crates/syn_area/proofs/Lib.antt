mod Joining
mod Visiting
pub mod Bettering
pub mod Counting
pub mod Costing
