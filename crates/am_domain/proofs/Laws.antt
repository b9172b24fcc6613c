-- What proofs of other crates may cite of tuples, walks, members, questions and examples.
pub use Rattle.am_domain.proofs.Tuples.{AreWords-nil, AreWords-cons, AreWords-append, single-IsTuple, pair-IsTuple}
pub use Rattle.am_domain.proofs.Tuples.{IsTuple-append, by_one, by_two, by_three}
pub use Rattle.am_domain.proofs.Walks.{steps-word, steps-cases, steps-on, steps-self, steps-upwards, length-upwards}
pub use Rattle.am_domain.proofs.Walks.{get_or-upwards, Contains-upwards, Contains-walk, part-between}
pub use Rattle.am_domain.proofs.Parts.{part-IsPart}
pub use Rattle.am_domain.proofs.Members.{is_member-tells}
pub use Rattle.am_domain.proofs.Precision.{Betters-trans}
pub use Rattle.am_domain.proofs.Examples.{sound_covers, better_excludes, within_excludes, all_covered, all_excluded}
pub use Rattle.am_domain.proofs.Examples.{none_is_sound, none_betters}
