use Rattle.std.proofs.Common.{◌≡◌, [], length}
use Rattle.am_syntax.specs.Pieces.{is_number_next, repeat_from}
use Rattle.am_cert.specs.Grammar.{code}
use Rattle.am_cert.proofs.hints.read_codes.Given as goal

abbrev pub decreases-codes : goal.decreases-codes
decreases-codes l = length l.text.tokens

abbrev pub invariant-codes : goal.invariant-codes
invariant-codes l =
    repeat_from is_number_next (λ _. code.read) l.codes l.text ≡
    repeat_from is_number_next (λ _. code.read) [] l.initial.text
