-- The lemmas that the proofs of other crates may cite, from one place. Declares nothing.
pub use Rattle.am_hint.proofs.NormalTests.{normal_tests_are_right}
pub use Rattle.am_hint.proofs.Truths.{Contains-is_in, is_in-Contains}
pub use Rattle.am_hint.proofs.Statuses.{forced_member}
pub use Rattle.am_hint.proofs.Sound.{hints_are_sound, passes_where}
pub use Rattle.am_hint.proofs.Listed.{hints_grow, first_hint_faults_stand, hint_refutations_are_sound}
