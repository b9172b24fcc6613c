use Rattle.std.proofs.Common.{◌++◌, ◌-◌, ℕ}
use Rattle.std.specs.Prelude.{Contains}
use Rattle.am_watch.specs.Watching.{Extends, KeepsWatches, IsTrueIn, clause_at}
use Rattle.am_watch.proofs.watches.Watches.propagate.Given as goal

abbrev pub invariant-loop-trail : goal.invariant-loop-trail
invariant-loop-trail l = record {
  holds : KeepsWatches l.self.lists l.self.pairs.items l.self.fresh.items (l.given ++ l.learnt) l.trail;
  extends : Extends (l.given ++ l.learnt) l.fn.trail l.trail;
  fresh : (i : ℕ) → Contains l.self.fresh.items i → IsTrueIn l.trail.entries (clause_at (l.given ++ l.learnt) i);
}

abbrev pub decreases-loop-trail : goal.decreases-loop-trail
decreases-loop-trail l = l.trail.vars - l.trail.head
