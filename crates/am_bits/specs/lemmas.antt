pub mod Bits
pub mod Masks
pub mod Terms
pub mod KnownLaws
pub mod ParityLaws
pub mod CongruenceLaws
