pub mod Classes
pub mod PlansOf
pub mod Laws
