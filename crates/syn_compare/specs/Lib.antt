pub mod Comparing
pub mod Matching
pub mod Ordering
pub mod Places
pub mod Renaming
pub mod Telling
