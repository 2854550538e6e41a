pub mod Leaves
pub mod Values
pub mod Fits
pub mod Firsts
pub mod Owned
pub mod Found
