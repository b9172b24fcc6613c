use Rattle.std.proofs.Common.{arith, ◌∙◌, ap, ◌<◌, length}
use Rattle.am_lit.specs.Literal.{opposite_of}
use Rattle.am_trail.specs.Trails.{literals}
use Rattle.am_solve.proofs.Counting.{mark_read}
use Rattle.am_solve.proofs.Decisions.{kept_more, kept_over}
use Rattle.am_solve.proofs.implied.marked_before.Goals as goal
use Rattle.am_solve.proofs.implied.marked_before.Goals.{then-index+in_ok-push, else-index}

pub loop-i-preserved : goal.loop-i-preserved
loop-i-preserved c =
    let row = literals c.args.trail.now.entries in
    let marks = c.args.marks.now.places.items in
    let inside : c.loop-i.i < length marks = omega (arith, c.requires.start, c.requires.len) in
    elim c.if-index.branch [
      | then-index+in_ok-push w ↦
          rw (w.kept-is, w.in_ok-push.ensures.items)
          (kept_more row marks c.loop-i.kept.items c.loop-i.i c.loop-i.invariant w.opposite.result
          (mark_read marks c.loop-i.i c.index.result.now inside c.index.ensures ∙ w.if-index.true)
          (w.opposite.ensures ∙ ap opposite_of w.literal.ensures))
      | else-index w ↦
          rw w.kept-is
          (kept_over row marks c.loop-i.kept.items c.loop-i.i c.loop-i.invariant
          (mark_read marks c.loop-i.i c.index.result.now inside c.index.ensures ∙ w.if-index.false))
    ]
