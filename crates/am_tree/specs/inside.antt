pub mod Counted
pub mod Formed
pub mod Matched
pub mod Totals
