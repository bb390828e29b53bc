pub mod Links
pub mod Lent
pub mod Feeds
pub mod Promise
pub mod Placed
