pub mod Kind
pub mod Asks
pub mod Memory
pub mod Row
pub mod Searched
pub mod Firsts
