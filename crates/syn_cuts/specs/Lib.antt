pub mod Cuts
pub mod Worked
pub mod Leaves
pub mod Lists
pub mod Naming
pub mod Signatures
pub mod Laws
pub mod Keeping
