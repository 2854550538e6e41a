pub mod Placed
mod Joined
mod Fitting
