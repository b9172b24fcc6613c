pub mod Shapes
pub mod Shown
pub mod Drafts
pub mod Printable
pub mod Ends
pub mod Verdicts
pub mod Translations
