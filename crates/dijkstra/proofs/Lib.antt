pub mod Refusals
pub mod Up
pub mod Solves
pub mod Answers
pub mod Settles
