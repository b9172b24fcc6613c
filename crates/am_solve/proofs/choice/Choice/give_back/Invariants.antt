use Rattle.am_solve.proofs.Ready.{IsGivenBack}
use Rattle.am_solve.proofs.choice.Choice.give_back.Given as goal

abbrev pub invariant-loop-i : goal.invariant-loop-i
invariant-loop-i l = IsGivenBack l.self.order l.self.phases.items l.trail.vars l.trail.entries l.start l.i
