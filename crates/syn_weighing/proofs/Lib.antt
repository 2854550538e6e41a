mod Own
mod Told
mod GoingOn
mod AllKept
mod Holding
mod Weights
