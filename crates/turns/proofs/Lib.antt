pub mod Lawful
pub mod Cells
pub mod Rows
pub mod Turns
pub mod Right
pub mod Firsts
