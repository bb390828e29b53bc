pub mod Literal
pub mod Settles
pub mod Entries
pub mod Exact
pub mod Refusals
pub mod Answers
