mod Graphing
mod Known
mod Matching
mod LutValues
