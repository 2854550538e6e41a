mod Sums
mod Works
mod Leaving
mod Numbers
mod Chains
mod Turning
