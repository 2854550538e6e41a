pub mod Blanks
pub mod Lexed
pub mod WrittenFits
pub mod WrittenSpells
pub mod WrittenNames
pub mod WrittenFaults
pub mod WrittenReads
pub mod WellFormedNetlists
mod Finding
mod Tabling
mod Whole
mod LutWhole
pub mod Shaped
mod Samples
