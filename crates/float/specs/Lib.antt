pub mod Cost
pub mod Dist
pub mod Whole
pub mod Cutoff
pub mod Better
pub mod Stored
