pub mod Bytes
pub mod Records
pub mod Engines
pub mod Load
pub mod Parts
