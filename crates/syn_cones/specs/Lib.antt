pub mod Leaves
pub mod Cones
pub mod Words
pub mod CutTruth
pub mod Walk
pub mod Values
pub mod Laws
