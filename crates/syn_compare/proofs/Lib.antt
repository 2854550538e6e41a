pub mod Compared
pub mod Matched
pub mod Ordered
pub mod Placed
pub mod Renamed
