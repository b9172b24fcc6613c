pub mod inside
pub mod Literal
pub mod Clause
pub mod Truth
pub mod UnitRow
pub mod UnitRowLaws
pub mod SearchLaws
