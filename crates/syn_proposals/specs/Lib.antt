pub mod Leveled
pub mod Sound
pub mod Closing
pub mod Leftovers
pub mod Following
pub mod Gains
pub mod Laws
