use Rattle.std.proofs.Common.{arith}
use Rattle.std.specs.Prelude.{Contains}
use Rattle.std.proofs.lemmas.List.{take_all}
use Rattle.am_lit.specs.Literal.{opposite_of}
use Rattle.am_trail.specs.Trails.{literals}
use Rattle.am_watch.proofs.Open.{All-seen}
use Rattle.am_watch.proofs.looks.first_open.Goals as goal

pub loop-l-preserved : goal.loop-l-preserved
loop-l-preserved c =
    All-seen (λ m. Contains (literals c.args.trail.now.entries) (opposite_of m)) c.args.clause.now c.loop-l.l-index
    c.l-item.result (omega arith) c.l-item.is c.loop-l.invariant
    (c.is_false.ensures.yes c.if-not-is_false.false)

pub returns-clause-none : goal.returns-clause-none
returns-clause-none c = rw (take_all c.loop-l.l-index c.args.clause.now (omega arith)) at c.loop-l.invariant
