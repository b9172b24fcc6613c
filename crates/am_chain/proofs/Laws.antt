-- The lemmas that the proofs of other crates may cite, from one place. Declares nothing.
pub use Rattle.am_chain.proofs.Merging.{IsStrictlyIncreasing-resolvent}
pub use Rattle.am_chain.proofs.Resolvents.{from_resolvent, into_resolvent, has_pivot_iff}
pub use Rattle.am_chain.proofs.Ordered.{chain_below, formula_below, replay_below}
pub use Rattle.am_chain.proofs.Sound.{ok_parts, clause_of_implied, implied_by_given, none_satisfies}
pub use Rattle.am_chain.proofs.Replaying.{replay_implied, replay-append, length-replay, replay_fault, after_steps-push}
