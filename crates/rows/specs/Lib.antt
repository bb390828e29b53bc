pub mod Rows
pub mod Steps
pub mod RowArc
pub mod Scratch
pub mod Kept
pub mod Kinds
