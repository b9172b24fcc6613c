pub mod Selections
