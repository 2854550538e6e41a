pub mod Refactoring
pub mod Known
pub mod Cones
