pub mod Rows
pub mod Front
pub mod Slices
pub mod Joining
pub mod Laws
