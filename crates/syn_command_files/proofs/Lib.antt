pub mod Quitting
pub mod Putting
pub mod Refusing
pub mod Deciding
pub mod Concluding
pub mod Decimals
pub mod Working
