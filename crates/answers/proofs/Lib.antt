pub mod Rooms
pub mod Widths
pub mod Says
pub mod Settles
