pub mod Dist
pub mod Cost
pub mod Real
pub mod BitOrder
pub mod Whole
pub mod None
pub mod StoredOver
pub mod Past
