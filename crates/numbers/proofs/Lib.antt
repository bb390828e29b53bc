pub mod Numbers
pub mod Beside
pub mod Refused
