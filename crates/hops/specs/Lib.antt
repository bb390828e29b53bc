pub mod Steps
pub mod Promise
pub mod Search
pub mod Parts
