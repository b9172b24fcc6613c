use Rattle.std.proofs.Common.{refl}
use Rattle.am_gate.specs.Build.{place_of}
use Rattle.am_gate.proofs.Laws.{GivesStep-Follows}
use Rattle.am_blast.proofs.Words.{AreWordPair-opposites, AreWordPair-swapped}
use Rattle.am_blast.proofs.Comparisons.{Makes-most, Follows-most}
use Rattle.am_blast.proofs.compare.is_at_most.Goals as goal

pub add_words-requires-clause-words : goal.add_words-requires-clause-words
add_words-requires-clause-words c =
    rw (c.as_slice.ensures, c.in_ok-not_a.ensures)
    (AreWordPair-opposites c.args.circuit.now.vars c.args.b.now c.args.a.now
    (AreWordPair-swapped c.args.circuit.now.vars c.args.a.now c.args.b.now c.requires.words))

pub returns-clause-ok : goal.returns-clause-ok
returns-clause-ok c =
    GivesStep-Follows
    (Makes-most _ c.args.a.now c.args.b.now (place_of c.args.circuit.now)
    (rw c.truth-truth.ensures.truth at c.truth-truth.ensures.inside)
    (record { bits = refl; inside = c.requires.words.first })
    (record { bits = c.requires.words.lengths; inside = c.requires.words.second }))
    (Follows-most c.args.a.now c.args.b.now _ _ _
    (rw (c.as_slice.ensures, c.in_ok-not_a.ensures, c.truth-truth.ensures.truth)
    at c.in_ok-carry.ensures.ok.follows))
