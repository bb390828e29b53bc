pub mod Filled
pub mod Filling
pub mod Better
pub mod Payload
