pub mod Graphs
pub mod Relations
