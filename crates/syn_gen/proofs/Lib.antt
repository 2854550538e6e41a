pub mod Named
pub mod Drawing
pub mod Checking
pub mod Whole
