pub mod Gates
pub mod Plans
pub mod Factoring
pub mod Tables
pub mod Naming
