pub mod Counting
pub mod Graphing
