pub mod Irredundant
pub mod AllNew
pub mod Weighing
