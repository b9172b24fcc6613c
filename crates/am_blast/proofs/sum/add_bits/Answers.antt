use Rattle.am_gate.specs.Build.{place_of}
use Rattle.am_gate.proofs.Laws.{Follows-bind, Follows-answer, GivesStep-Follows}
use Rattle.am_blast.specs.Sums.{full_adder}
use Rattle.am_blast.proofs.Sums.{Makes-full_adder}
use Rattle.am_blast.proofs.sum.add_bits.Goals as goal

pub returns-clause-ok : goal.returns-clause-ok
unfolding full_adder
returns-clause-ok c =
    GivesStep-Follows
    (Makes-full_adder c.args.a c.args.b c.args.c (place_of c.args.circuit.now) c.requires.first c.requires.second
    c.requires.third)
    (Follows-bind _ c.in_ok-half.ensures.ok.follows
    (Follows-bind _ c.in_ok-sum.ensures.ok.follows
    (Follows-bind _ c.in_ok-carry.ensures.ok.follows Follows-answer)))
