pub mod Matrix
pub mod Settles
