pub mod KnownBits
pub mod Parities
pub mod Congruences
pub mod Theorems
pub mod lemmas
