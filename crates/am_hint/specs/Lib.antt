pub mod inside
pub mod Hints
pub mod Hinted
pub mod HintReplay
pub mod HintLaws
