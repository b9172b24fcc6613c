pub mod Choosing
pub mod Marking
pub mod Searching
pub mod Searches
