pub mod Functions
pub mod Later
pub mod Placings
