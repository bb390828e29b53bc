pub mod Maps
pub mod Used
pub mod Distance
pub mod Exact
pub mod Small
