pub mod Replacing
pub mod Portions
pub mod LineParts
