use Rattle.std.proofs.Common.{◌≡◌, ◌+◌, length}
use Rattle.am_cert.specs.Grammar.{negative_count}
use Rattle.am_cert.proofs.turns.negative_count.Given as goal

abbrev pub invariant-loop-turn : goal.invariant-loop-turn
invariant-loop-turn l = record {
  so_many : length l.turn-iterator.iter.rest.now + l.behind ≡ length l.seen;
  count : negative_count l.seen ≡ negative_count l.turn-iterator.iter.rest.now + l.behind;
}
