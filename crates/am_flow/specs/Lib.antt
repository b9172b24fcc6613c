pub mod Flows
pub mod Stored
pub mod Grammar
pub mod Texts
pub mod States
pub mod Runs
pub mod inside
