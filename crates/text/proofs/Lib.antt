pub mod Widths
pub mod Fields
pub mod Lines
pub mod Rows
