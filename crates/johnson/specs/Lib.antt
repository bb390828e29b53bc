pub mod Promise
pub mod Rounds
pub mod Potentials
pub mod Shifting
pub mod Parts
