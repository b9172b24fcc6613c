pub mod Lying
pub mod WrappedLaws
