pub mod Both
pub mod Compared
pub mod Verdicts
