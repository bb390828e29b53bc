pub mod Bytes
pub mod Keeps
pub mod Loads
pub mod Offsets
pub mod Engines
