pub mod Parts
pub mod Walks
pub mod Commons
pub mod Terms
pub mod PairLaws
