pub mod LutLiterals
