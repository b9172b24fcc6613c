use Rattle.std.proofs.Common.{◌≡◌, [], length}
use Rattle.am_syntax.specs.Pieces.{is_number_next, repeat_from}
use Rattle.am_cert.specs.Grammar.{code}
use Rattle.am_cert.proofs.hints.read_numbers.Given as goal

abbrev pub decreases-numbers : goal.decreases-numbers
decreases-numbers l = length l.text.tokens

abbrev pub invariant-numbers : goal.invariant-numbers
invariant-numbers l =
    repeat_from is_number_next (λ _. code.read) l.numbers l.text ≡
    repeat_from is_number_next (λ _. code.read) [] l.initial.text
