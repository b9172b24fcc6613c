use Rattle.std.proofs.Common.{◌≡◌, [], codes, length}
use Rattle.am_syntax.specs.Pieces.{next_is, repeat_from}
use Rattle.am_cert.specs.Grammar.{hint}
use Rattle.am_cert.proofs.hints.read_list.Given as goal

abbrev pub decreases-hints : goal.decreases-hints
decreases-hints l = length l.text.tokens

abbrev pub invariant-hints : goal.invariant-hints
invariant-hints l =
    repeat_from (next_is (codes "clause")) (λ _. hint.read) l.hints l.text ≡
    repeat_from (next_is (codes "clause")) (λ _. hint.read) [] l.initial.text
