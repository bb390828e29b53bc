pub mod Tests
pub mod Refusals
pub mod Marks
pub mod Verdict
pub mod Settles
pub mod Totals
