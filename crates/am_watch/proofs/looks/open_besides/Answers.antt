use Rattle.std.proofs.Common.{arith, ◌≢◌}
use Rattle.std.specs.Prelude.{Contains}
use Rattle.std.proofs.lemmas.List.{take_all}
use Rattle.am_lit.specs.Literal.{opposite_of}
use Rattle.am_trail.specs.Trails.{literals}
use Rattle.am_watch.proofs.Open.{All-seen, same_when}
use Rattle.am_watch.proofs.looks.open_besides.Goals as goal
use Rattle.am_watch.proofs.looks.open_besides.Goals.{else-not-is_false-via-then-not-is_false+else-ne}
use Rattle.am_watch.proofs.looks.open_besides.Goals.{else-not-is_false-via-else-not-is_false}

pub loop-l-preserved : goal.loop-l-preserved
loop-l-preserved c =
    All-seen (λ m. m ≢ c.args.other → Contains (literals c.args.trail.now.entries) (opposite_of m)) c.args.clause.now
    c.loop-l.l-index c.l-item.result (omega arith) c.l-item.is c.loop-l.invariant
    (elim c.else-not-is_false.branch [
      | else-not-is_false-via-then-not-is_false+else-ne w ↦ λ ne. absurd
          (ne (same_when w.ne.result c.l-item.result c.args.other w.ne.ensures w.if-ne.false))
      | else-not-is_false-via-else-not-is_false w ↦ λ ne. c.is_false.ensures.yes w.if-not-is_false.false
    ])

pub returns-clause-none : goal.returns-clause-none
returns-clause-none c = rw (take_all c.loop-l.l-index c.args.clause.now (omega arith)) at c.loop-l.invariant
