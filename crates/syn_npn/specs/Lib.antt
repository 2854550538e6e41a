pub mod EachPermutation
pub mod Images
pub mod Keys
pub mod Permutations
pub mod Transforms
pub mod Values
pub mod Walk
