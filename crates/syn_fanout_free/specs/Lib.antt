pub mod Freed
pub mod Saved
pub mod Laws
pub mod Nodes
pub mod Freeing
pub mod Waits
pub mod Keeping
pub mod Bounding
