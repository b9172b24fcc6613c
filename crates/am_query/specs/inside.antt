pub mod Stated
pub mod Statements
pub mod Weights
pub mod Words
pub mod Parts
pub mod Chosen
pub mod Solved
