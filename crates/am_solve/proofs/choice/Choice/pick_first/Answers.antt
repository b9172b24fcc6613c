use Rattle.std.proofs.Common.{arith, ◌≡◌, take}
use Rattle.std.proofs.lemmas.List.{take_all}
use Rattle.am_solve.proofs.Branching.{valued_more}
use Rattle.am_solve.proofs.choice.Choice.pick_first.Goals as goal

pub loop-variable-preserved : goal.loop-variable-preserved
loop-variable-preserved c =
    valued_more c.args.trail.now.entries c.args.first.now c.loop-variable.variable-index (omega arith)
    c.literal-l.result c.literal-l.ensures (c.has_value.ensures.yes c.if-not-has_value.false)
    c.loop-variable.invariant

pub returns-clause-none : goal.returns-clause-none
returns-clause-none c =
    let all : take c.loop-variable.variable-index c.args.first.now ≡ c.args.first.now =
    take_all c.loop-variable.variable-index c.args.first.now (omega arith) in
    rw all at c.loop-variable.invariant
