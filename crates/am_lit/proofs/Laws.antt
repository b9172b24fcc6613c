-- The lemmas that the proofs of other crates may cite, from one place. Declares nothing.
pub use Rattle.am_lit.proofs.Members.{Contains-head, Contains-here, Contains-tail, Contains-nil, Contains-cons_cases}
pub use Rattle.am_lit.proofs.Members.{Contains-map, Contains-filter, same_or, member_or, AllPairs-head, AllPairs-tail}
pub use Rattle.am_lit.proofs.Opposites.{opposite_parts, variable_of-opposite_of, opposite_of-opposite_of}
pub use Rattle.am_lit.proofs.Opposites.{opposite_of-differs, other_literal}
pub use Rattle.am_lit.proofs.Truths.{literal_value-opposite_of, true_literal, clause_holds}
pub use Rattle.am_lit.proofs.Rising.{All-sorted_literals, IsStrictlyIncreasing-sorted_literals}
pub use Rattle.am_lit.proofs.Rising.{clause_value-sorted_literals, Contains-sorted_literals}
pub use Rattle.am_lit.proofs.Normals.{Increases, above_of, normal_iff}
pub use Rattle.am_lit.proofs.Rows.{IsUnitRow-append, given_row, no_subset}
pub use Rattle.am_lit.proofs.Settling.{new_by_settled, closed_by_settled, settled_otherwise, satisfied_by_settled}
pub use Rattle.am_lit.proofs.Settling.{nothing_new, AllNew-push, Determines-append, all_determine}
