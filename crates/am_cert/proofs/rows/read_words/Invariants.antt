use Rattle.std.proofs.Common.{◌≡◌, ◌-◌, [], length}
use Rattle.am_syntax.specs.Pieces.{times_from}
use Rattle.am_cert.specs.Grammar.{word}
use Rattle.am_cert.specs.inside.Shapes.{seen_shape}
use Rattle.am_cert.proofs.rows.read_words.Given as goal

abbrev pub invariant-words : goal.invariant-words
invariant-words g l = record {
  so_many : length l.row ≡ l.counter;
  read : times_from (λ _. (word (seen_shape l.s)).read) (l.count - l.counter) l.row l.text ≡
      times_from (λ _. (word (seen_shape l.s)).read) l.count [] l.initial.text;
}
