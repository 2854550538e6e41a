pub mod Told
pub mod Sources
pub mod Loading
pub mod Luts
pub mod Worked
