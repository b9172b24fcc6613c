-- The lemmas that the proofs of other crates may cite, from one place. Declares nothing.
pub use Rattle.am_watch.proofs.Parts.{Contains-take, Contains-drop}
pub use Rattle.am_watch.proofs.Extending.{explained_more, explained_still, Extends-refl, Extends-trans, literal_still}
pub use Rattle.am_watch.proofs.Extending.{true_still}
pub use Rattle.am_watch.proofs.Extending.{forced_false}
pub use Rattle.am_watch.proofs.Going.{holds_decide, holds_imply, holds_back}
