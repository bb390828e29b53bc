pub mod Ends
pub mod Puts
pub mod Good
pub mod Numbers
pub mod Settles
pub mod Sample
