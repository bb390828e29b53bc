pub mod Answers
pub mod Output
