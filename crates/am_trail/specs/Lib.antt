pub mod Trails
pub mod Orders
pub mod inside
