pub mod Testing
pub mod Reading
pub mod Replaying
pub mod Spreading
pub mod Telling
