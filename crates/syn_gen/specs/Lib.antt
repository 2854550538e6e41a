pub mod Draws
pub mod Generated
pub mod Signals
pub mod Laws
