pub mod Walk
pub mod Pigeon
pub mod Hist
pub mod Costs
pub mod Shift
pub mod Weigh
pub mod Chain
