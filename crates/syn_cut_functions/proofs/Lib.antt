pub mod Numbers
pub mod Cuts
pub mod Listed
mod CutTruth
