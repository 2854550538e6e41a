pub mod Truth
pub mod Words
