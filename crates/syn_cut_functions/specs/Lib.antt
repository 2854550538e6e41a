pub mod Cuts
pub mod Functions
pub mod CutTruth
pub mod Laws
