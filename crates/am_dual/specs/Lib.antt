pub mod Synthesis
pub mod inside
