pub mod Rewriting
pub mod Prepared
