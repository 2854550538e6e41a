pub mod Placing
pub mod Replacing
