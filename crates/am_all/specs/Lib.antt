pub mod AllBest
pub mod Sizes
pub mod Theorems
pub mod inside
