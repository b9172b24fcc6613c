use Rattle.am_gate.specs.Build.{place_of}
use Rattle.am_gate.proofs.Laws.{Follows-bind, Follows-answer, GivesStep-Follows}
use Rattle.am_blast.specs.Bitwise.{either}
use Rattle.am_blast.proofs.Bits.{Makes-either}
use Rattle.am_blast.proofs.bitwise.either.Goals as goal

pub returns-clause-ok : goal.returns-clause-ok
unfolding either
returns-clause-ok c =
    let neither = rw (c.opposite.ensures, c.opposite-2.ensures) at c.in_ok-neither.ensures.ok.follows in
    GivesStep-Follows
    (Makes-either c.args.a c.args.b (place_of c.args.circuit.now) c.requires.first c.requires.second)
    (rw c.opposite-3.ensures (Follows-bind _ neither Follows-answer))
