pub mod Pairs
pub mod Theorems
pub mod inside
pub mod lemmas
