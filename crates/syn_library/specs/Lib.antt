pub mod Fitting
pub mod Library
pub mod Prepared
