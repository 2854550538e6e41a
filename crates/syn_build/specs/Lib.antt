pub mod Covering
pub mod Naming
pub mod Building
pub mod LutLiterals
pub mod GraphOfLuts
pub mod BuildFaults
