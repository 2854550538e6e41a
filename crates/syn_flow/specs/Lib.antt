pub mod Witness
pub mod Labels
pub mod Coverings
pub mod Flows
pub mod Labelling
pub mod Checks
