pub mod Tables
pub mod Feeds
pub mod Paths
pub mod Sheets
