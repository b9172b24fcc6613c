use Rattle.std.proofs.Common.{◌≡◌, [], length}
use Rattle.am_syntax.specs.Pieces.{is_number_next, repeat_from}
use Rattle.am_cert.specs.Grammar.{step}
use Rattle.am_cert.proofs.chains.read_steps.Given as goal

abbrev pub decreases-steps : goal.decreases-steps
decreases-steps l = length l.text.tokens

abbrev pub invariant-steps : goal.invariant-steps
invariant-steps l =
    repeat_from is_number_next (λ _. step.read) l.steps l.text ≡
    repeat_from is_number_next (λ _. step.read) [] l.initial.text
