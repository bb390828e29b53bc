pub mod Net
pub mod Ranks
