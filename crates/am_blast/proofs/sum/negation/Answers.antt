use Rattle.std.proofs.Common.{length, sym, ◌∙◌}
use Rattle.std.proofs.lemmas.List.{length-map, length-replicate}
use Rattle.am_lit.specs.Literal.{opposite_of}
use Rattle.am_gate.specs.Circuit.{falsity}
use Rattle.am_blast.proofs.Words.{All-opposites, All-zeros}
use Rattle.am_blast.proofs.sum.negation.Goals as goal

pub sum-requires-clause-words : goal.sum-requires-clause-words
sum-requires-clause-words c =
    rw (c.as_slice.ensures, c.in_ok-not_a.ensures, c.as_slice-2.ensures, c.in_ok-zeros.ensures) (record {
      lengths = length-replicate (length c.args.a.now) falsity ∙ sym (length-map c.args.a.now opposite_of);
      first = All-opposites c.args.circuit.now.vars c.args.a.now c.requires.word;
      second =
          All-zeros c.args.circuit.now.vars (length c.args.a.now)
          (rw c.truth-truth.ensures.truth at c.truth-truth.ensures.inside);
    })
