mod Classes
mod Fitted
