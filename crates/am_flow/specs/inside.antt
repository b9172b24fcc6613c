pub mod Shapes
pub mod Changes
pub mod Rows
pub mod Steps
pub mod Ranks
