use Rattle.std.proofs.Common.{◌∷◌, []}
use Rattle.am_solve.proofs.Ready.{ready_more}
use Rattle.am_solve.proofs.choice.Choice.pick.Goals as goal

pub returns-in-Some-clause-ready_some : goal.returns-in-Some-clause-ready_some
returns-in-Some-clause-ready_some c = λ e is.
    ready_more c.args.self.now.order c.args.self.now.phases.items c.args.trail.now.vars c.args.trail.now.entries
    (e ∷ []) c.requires.ready
