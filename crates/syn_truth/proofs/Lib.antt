pub mod Minterms
pub mod Shifts
pub mod Operations
pub mod Halves
pub mod Each
pub mod Swaps
