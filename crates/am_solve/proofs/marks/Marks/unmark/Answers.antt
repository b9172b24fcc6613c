use Rattle.std.proofs.Common.{arith}
use Rattle.am_trail.specs.Trails.{literals}
use Rattle.am_solve.proofs.Counting.{counted_less}
use Rattle.am_solve.proofs.marks.Marks.unmark.Goals as goal

pub overflow_sub-self : goal.overflow_sub-self
overflow_sub-self c =
    (counted_less (literals c.args.trail.now.entries) c.args.self.now.start c.args.self.now.places.items
    c.args.self.now.kept.items c.args.self.now.count c.requires.counted c.args.place c.requires.place
    c.requires.high c.requires.marked).0

pub returns-clause-count : goal.returns-clause-count
returns-clause-count c =
    let some =
    (counted_less (literals c.args.trail.now.entries) c.args.self.now.start c.args.self.now.places.items
    c.args.self.now.kept.items c.args.self.now.count c.requires.counted c.args.place c.requires.place
    c.requires.high c.requires.marked).0 in
    omega arith

pub returns-clause-counted : goal.returns-clause-counted
returns-clause-counted c =
    (counted_less (literals c.args.trail.now.entries) c.args.self.now.start c.args.self.now.places.items
    c.args.self.now.kept.items c.args.self.now.count c.requires.counted c.args.place c.requires.place
    c.requires.high c.requires.marked).1
