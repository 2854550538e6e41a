pub mod Maps
pub mod Gathered
pub mod Firsts
mod Chains
pub mod Savings
mod Borrowed
pub mod Kept
