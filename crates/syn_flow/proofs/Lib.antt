pub mod Bounding
pub mod Covered
pub mod Agreeing
pub mod Noded
pub mod Labelled
pub mod Witnessed
pub mod OneLabels
pub mod Attained
