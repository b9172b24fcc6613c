pub mod Intervals
pub mod Terms
pub mod Domains
pub mod lemmas
