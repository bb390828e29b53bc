pub mod Cases
pub mod Signed
