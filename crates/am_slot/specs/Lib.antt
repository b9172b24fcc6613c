pub mod Encoding
pub mod Selectors
pub mod Decoded
pub mod Clauses
pub mod Blocks
pub mod Template
pub mod Theorems
pub mod inside
