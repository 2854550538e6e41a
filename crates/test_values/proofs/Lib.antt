mod AnyOrder
mod Nets
