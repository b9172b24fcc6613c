pub mod Tuples
pub mod Precision
pub mod Walks
pub mod Parts
pub mod Members
pub mod Examples
pub mod Laws
