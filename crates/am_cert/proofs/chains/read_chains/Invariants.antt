use Rattle.std.proofs.Common.{◌≡◌, [], codes, length}
use Rattle.am_syntax.specs.Pieces.{next_is, repeat_from}
use Rattle.am_cert.specs.Grammar.{chain}
use Rattle.am_cert.proofs.chains.read_chains.Given as goal

abbrev pub decreases-chains : goal.decreases-chains
decreases-chains l = length l.text.tokens

abbrev pub invariant-chains : goal.invariant-chains
invariant-chains l =
    repeat_from (next_is (codes "chain")) (λ _. chain.read) l.log l.text ≡
    repeat_from (next_is (codes "chain")) (λ _. chain.read) [] l.initial.text
