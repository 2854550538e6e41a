pub mod Outside
pub mod Calls
pub mod NamedFiles
pub mod MemFiles
pub mod MemLines
pub mod MemSink
pub mod RealLines
pub mod RealFiles
