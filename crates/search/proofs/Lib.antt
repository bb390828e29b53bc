pub mod IntKind
pub mod FloatKind
pub mod Runs
pub mod Lists
pub mod Target
