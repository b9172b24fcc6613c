use Rattle.std.proofs.Common.{sym, ◌∙◌}
use Rattle.std.proofs.lemmas.List.{length-map}
use Rattle.am_lit.specs.Literal.{opposite_of}
use Rattle.am_gate.specs.Build.{place_of}
use Rattle.am_gate.proofs.Laws.{GivesStep-Follows}
use Rattle.am_blast.specs.declared.shift.Direction.TheVariants.{Up}
use Rattle.am_blast.specs.Shifts.{moved}
use Rattle.am_blast.proofs.Words.{All-opposites, All-later}
use Rattle.am_blast.proofs.Shifts.{All-moved, length-moved}
use Rattle.am_blast.proofs.Division.{Makes-round, Follows-round}
use Rattle.am_blast.proofs.divide.round.Goals as goal

pub add_words-requires-clause-words : goal.add_words-requires-clause-words
add_words-requires-clause-words c =
    let vars = c.args.circuit.now.vars in
    let divisor = c.args.divisor.now in
    let remainder = c.args.remainder.now in
    rw (c.as_slice.ensures, c.in_ok-moved.ensures, c.as_slice-2.ensures, c.in_ok-negated.ensures)
    (record {
      lengths =
          length-map divisor opposite_of ∙ sym (length-moved Up c.args.bit 1 remainder ∙ c.requires.words.lengths);
      first = All-moved Up vars c.args.bit 1 remainder c.requires.bit c.requires.words.second;
      second = All-opposites vars divisor c.requires.words.first;
    })

pub at_each_bit-requires-clause-words : goal.at_each_bit-requires-clause-words
at_each_bit-requires-clause-words c =
    let sum = c.in_ok-difference.ensures.ok.given.0 in
    rw (c.as_slice-3.ensures, c.as_slice-4.ensures, c.in_ok-moved.ensures)
    (record {
      lengths = sym (rw (c.as_slice.ensures, c.in_ok-moved.ensures) at sum.bits);
      first = sum.inside;
      second =
          All-later c.args.circuit.now.vars c.add_words.new.circuit.vars (moved Up c.args.bit 1 c.args.remainder.now)
          c.in_ok-difference.ensures.begins.vars
          (All-moved Up c.args.circuit.now.vars c.args.bit 1 c.args.remainder.now c.requires.bit
          c.requires.words.second);
    })

pub returns-clause-ok : goal.returns-clause-ok
returns-clause-ok c =
    GivesStep-Follows
    (Makes-round c.args.bit c.args.remainder.now c.args.divisor.now (place_of c.args.circuit.now)
    (rw c.truth-truth.ensures.truth at c.truth-truth.ensures.inside)
    c.requires.words.lengths c.requires.bit c.requires.words.second c.requires.words.first)
    (Follows-round c.args.bit c.args.remainder.now c.args.divisor.now c.in_ok-next.next
    (c.in_ok-difference.difference, c.in_ok-difference.carry) _ _ _
    (rw (
      c.as_slice.ensures,
      c.in_ok-moved.ensures,
      c.as_slice-2.ensures,
      c.in_ok-negated.ensures,
      c.truth-truth.ensures.truth,
    )
    at c.in_ok-difference.ensures.ok.follows)
    (rw (c.as_slice-3.ensures, c.as_slice-4.ensures, c.in_ok-moved.ensures) at c.in_ok-next.ensures.ok.follows))
