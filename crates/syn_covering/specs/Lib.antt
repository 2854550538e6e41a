pub mod Cuts
pub mod Mappings
pub mod Needs
pub mod Making
