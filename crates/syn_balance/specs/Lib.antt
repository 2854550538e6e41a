pub mod Balanced
pub mod Roots
pub mod Leaves
pub mod Rule
pub mod Balancing
pub mod Joining
pub mod Heaps
