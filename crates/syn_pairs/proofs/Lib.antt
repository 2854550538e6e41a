pub mod Conjoining
pub mod Keeping
