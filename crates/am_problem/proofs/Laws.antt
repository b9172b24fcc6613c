-- What proofs of other crates may cite of the rows, transformers and examples of problems, of made problems, and of
-- their texts.
pub use Rattle.am_problem.proofs.Inputs.{rows_are_joined, inputs_are_tuples, tuples_are_cut, inputs_are_cut}
pub use Rattle.am_problem.proofs.Inputs.{inputs_are_parts, rows_are_inputs, members_are_words, words_are_members}
pub use Rattle.am_problem.proofs.Inputs.{results_are_values, true_examples_are_stored, valid_examples_are_stored}
pub use Rattle.am_problem.proofs.Fitting.{derivable_terms_fit, results_are_tuples, operations_give_words}
pub use Rattle.am_problem.proofs.Fitting.{rows_are_short}
pub use Rattle.am_problem.proofs.GeneratorLaws.{made-problem, made-sound}
pub use Rattle.am_problem.proofs.Different.{AreDifferent, different-append, different_transformers_are_few}
pub use Rattle.am_problem.proofs.LineLaws.{problem_law}
pub use Rattle.am_problem.specs.LineLimits.{IsLines}
pub use Rattle.am_problem.proofs.LineLimits.{lines_back, lines_good}
pub use Rattle.am_problem.proofs.KindLaws.{domain_law}
pub use Rattle.am_problem.proofs.Formed.{lines_of_formed}
pub use Rattle.am_problem.proofs.DraftLaws.{draft_advances, IsDraftOf, draft_takes, HasDraft, draft_again}
pub use Rattle.am_problem.proofs.Printed.{few_variables}
pub use Rattle.am_problem.proofs.PrintingLaws.{is_plain, plain_token, number_tokens, both_tokens, rows_tokens}
pub use Rattle.am_problem.specs.Printing.{joined_rows_of}
pub use Rattle.am_problem.proofs.PrintingLaws.{joined-append, rows_spelled}
