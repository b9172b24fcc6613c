use Rattle.std.proofs.Common.{◌*◌, subst}
use Rattle.am_gate.specs.Circuit.{Grows}
use Rattle.am_gate.proofs.Laws.{IsLiteral-opposite}
use Rattle.am_blast.proofs.Words.{AreWordPair-swapped}
use Rattle.am_blast.proofs.Comparisons.{Follows-below}
use Rattle.am_blast.proofs.compare.is_below.Goals as goal

pub is_at_most-requires-clause-words : goal.is_at_most-requires-clause-words
is_at_most-requires-clause-words c = AreWordPair-swapped c.args.circuit.now.vars c.args.a.now c.args.b.now
    c.requires.words

pub returns-clause-ok : goal.returns-clause-ok
returns-clause-ok c =
    let most = c.in_ok-carry.ensures.ok in
    record {
      follows = rw c.opposite.ensures (Follows-below c.args.a.now c.args.b.now _ _ _ most.follows);
      given = rw c.opposite.ensures (IsLiteral-opposite _ _ most.given);
      grows =
          subst (λ n. Grows (3 * n) c.args.circuit.now c.is_at_most.new.circuit) c.requires.words.lengths most.grows;
    }
