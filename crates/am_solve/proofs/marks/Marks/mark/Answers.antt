use Rattle.std.proofs.Common.{◌∙◌}
use Rattle.am_trail.specs.Trails.{literals}
use Rattle.am_solve.proofs.Counting.{counted_low, counted_high, mark_read}
use Rattle.am_solve.proofs.marks.Marks.mark.Goals as goal

pub returns-in_ok-push-clause-counted : goal.returns-in_ok-push-clause-counted
returns-in_ok-push-clause-counted c =
    rw c.in_ok-push.ensures.items
    (counted_low (literals c.args.trail.now.entries) c.args.self.now.start c.args.self.now.places.items
    c.args.self.now.kept.items c.args.self.now.count c.requires.counted c.args.place c.requires.place c.args.l
    c.if-place-self.true c.requires.literal)

pub returns-else-place-self-clause-counted : goal.returns-else-place-self-clause-counted
returns-else-place-self-clause-counted c =
    counted_high (literals c.args.trail.now.entries) c.args.self.now.start c.args.self.now.places.items
    c.args.self.now.kept.items c.args.self.now.count c.requires.counted c.args.place c.requires.place
    c.if-place-self.false
    (mark_read c.args.self.now.places.items c.args.place c.index.result.now c.requires.place c.index.ensures
    ∙ c.if-index.false)
