-- The calculus of circuits: what the proofs of other crates may cite of this crate's lemmas.
pub use Rattle.am_gate.proofs.Normals.{IsLiteral-opposite}
pub use Rattle.am_gate.proofs.Meaning.{literal_value-even, literal_value-odd, Satisfies-built}
pub use Rattle.am_gate.proofs.Folds.{never-input}
pub use Rattle.am_gate.proofs.Growth.{Grows-same, Grows-trans, HasRoom-grown, IsLiteral-grown, All-grown, Begins-same}
pub use Rattle.am_gate.proofs.Growth.{Begins-trans, Begins-built, Follows-Begins, begins}
pub use Rattle.am_gate.proofs.Building.{built-append, place_of-built, Meets-parts, Meets-append}
pub use Rattle.am_gate.proofs.Building.{Follows-answer, Follows-bind, Follows-tell}
pub use Rattle.am_gate.proofs.Building.{Means-answer, Means-bind, Means-weaker, Means-truth, Means-and, Means-xor}
pub use Rattle.am_gate.proofs.Building.{Means-mux, Means-Follows}
pub use Rattle.am_gate.proofs.Scoping.{AreScoped-append, AreGates-append, past-append, past-not_less}
pub use Rattle.am_gate.proofs.Making.{Makes-answer, Makes-bind, Makes-weaker, Makes-count, Makes-and, Makes-xor}
pub use Rattle.am_gate.proofs.Making.{Makes-mux, Makes-exactly, Makes-extend}
pub use Rattle.am_gate.proofs.Giving.{GivesStep-answer, GivesStep-bind, GivesStep-Follows}
pub use Rattle.am_gate.proofs.Reaching.{Reaches-answer, Reaches-bind, Reaches-gates, Reaches-tell}
pub use Rattle.am_gate.proofs.Made.{HasInputs-start, HasInputs-Follows, HasInputs-gates, HasInputs-input}
pub use Rattle.am_gate.proofs.Made.{HasInputs-tell, Follows-input}
