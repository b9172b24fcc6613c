pub mod Pairs
pub mod Lists
pub mod Watching
pub mod WatchLaws
pub mod inside
