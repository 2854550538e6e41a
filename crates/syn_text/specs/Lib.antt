pub mod Printed
pub mod WellFormed
pub mod Written
pub mod Numbered
