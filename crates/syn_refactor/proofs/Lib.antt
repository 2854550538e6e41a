pub mod Factored
pub mod Known
pub mod Saving
