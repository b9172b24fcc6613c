use Rattle.std.proofs.Common.{◌≡◌, length}
use Rattle.am_problem.specs.Grammar.{names_of}
use Rattle.am_problem.specs.StoredLines.{seen_rules}
use Rattle.am_problem.specs.Texts.{undefined_in}
use Rattle.am_problem.proofs.text.first_undefined.Given as goal

abbrev pub decreases-tokens : goal.decreases-tokens
decreases-tokens l = length l.text.tokens

abbrev pub invariant-tokens : goal.invariant-tokens
invariant-tokens l =
    undefined_in (names_of (seen_rules l.rules)) l.text.tokens ≡ undefined_in (names_of (seen_rules l.rules))
    l.initial.text.tokens
