-- What the proofs of other crates may cite of the queries' formulas: their laws.
pub use Rattle.am_query.proofs.Fitting.{fits_are_chosen, fits_are_reached, unsatisfied_fit_has_none}
pub use Rattle.am_query.proofs.SoundFormula.{failed_examples_are_chosen, failed_examples_are_reached}
pub use Rattle.am_query.proofs.SoundFormula.{unsatisfied_soundness_is_sound}
pub use Rattle.am_query.proofs.PreciseFormula.{closer_ones_are_chosen, closer_ones_are_reached}
pub use Rattle.am_query.proofs.PreciseFormula.{unsatisfied_precision_has_none_closer}
pub use Rattle.am_query.proofs.Loads.{formulas_keep_the_load}
-- What proofs of other crates may cite of turns, kept examples, and outcomes.
pub use Rattle.am_query.proofs.KeptPlaces.{none_is_kept_at_first, kept_grow, kept_are_determined, kept_are_satisfied}
pub use Rattle.am_query.proofs.KeptPlaces.{nothing_is_kept}
pub use Rattle.am_query.proofs.Shown.{all_at, length-at_places, places_grow, traces_grow, traces_show}
pub use Rattle.am_query.proofs.TurnBound.{turns_are_few}
pub use Rattle.am_query.proofs.Verdicts.{verdicts_are_unique, verdicts_exist, items_are_tested_in_turn}
pub use Rattle.am_query.proofs.Verdicts.{logs_are_tested_in_turn, hints_are_tested_in_turn}
pub use Rattle.am_query.proofs.OutcomeLaws.{derivable, accepted_is_right, accepted_with_hints_is_right}
pub use Rattle.am_query.proofs.OutcomeLaws.{best_is_accepted, absent_is_accepted}
