pub mod Promise
pub mod Trail
pub mod Parts
pub mod Given
