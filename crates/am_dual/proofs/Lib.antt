pub mod Inputs
pub mod Turning
pub mod Ending
