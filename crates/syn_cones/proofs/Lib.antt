pub mod Walking
pub mod Wording
pub mod Tabling
pub mod Swapping
pub mod Valued
pub mod Gaps
pub mod Together
pub mod Carrying
