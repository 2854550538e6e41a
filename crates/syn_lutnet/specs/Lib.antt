pub mod LutData
pub mod Data
pub mod Nets
