pub mod Growing
pub mod Cones
pub mod Laws
pub mod Plans
