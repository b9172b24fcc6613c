pub mod Tokens
pub mod Seen
pub mod Scan
pub mod Gathered
