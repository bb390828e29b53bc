pub mod Steps
pub mod Waves
pub mod Cells
pub mod Solving
pub mod Refusals
pub mod Answers
pub mod Settles
