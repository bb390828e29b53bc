pub mod Nodes
pub mod Bounds
pub mod Same
pub mod Lists
pub mod Totals
pub mod Cheapest
pub mod One
