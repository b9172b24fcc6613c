pub mod formers
pub mod Words
pub mod Operators
pub mod Terms
pub mod Theorems
