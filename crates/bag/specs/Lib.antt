pub mod Order
pub mod Content
pub mod Keys
pub mod Peaks
pub mod Ints
pub mod Floats
pub mod Bag
pub mod Right
