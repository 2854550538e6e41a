pub mod Sorted
pub mod Replacing
pub mod Choosing
pub mod Grown
pub mod Falling
pub mod Inner
pub mod InGraphs
pub mod Sound
