pub mod Choices
pub mod Leastness
pub mod Listed
pub mod Labelling
pub mod Fitted
