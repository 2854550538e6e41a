pub mod LutParts
pub mod Folding
pub mod Ones
pub mod Deepest
pub mod LutDepths
