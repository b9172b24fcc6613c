pub mod WrappedIntervals
pub mod lemmas
