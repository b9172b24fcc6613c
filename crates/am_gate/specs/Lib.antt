pub mod Circuit
pub mod Folding
pub mod Value
pub mod Build
pub mod Promises
pub mod Reaches
pub mod CircuitLaws
