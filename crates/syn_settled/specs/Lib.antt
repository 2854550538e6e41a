pub mod Fewest
pub mod Settled
