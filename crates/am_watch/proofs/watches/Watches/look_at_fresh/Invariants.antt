use Rattle.std.proofs.Common.{◌++◌, ◌-◌, length}
use Rattle.am_watch.specs.Watching.{Extends, KeepsWatches}
use Rattle.am_watch.proofs.Sweeping.{AreTrue}
use Rattle.am_watch.proofs.watches.Watches.look_at_fresh.Given as goal

abbrev pub invariant-loop-k : goal.invariant-loop-k
invariant-loop-k l = record {
  holds : KeepsWatches l.self.lists l.self.pairs.items l.self.fresh.items (l.given ++ l.learnt) l.trail;
  extends : Extends (l.given ++ l.learnt) l.initial.trail l.trail;
  done : AreTrue (l.given ++ l.learnt) l.self.fresh.items l.trail.entries l.k;
}

abbrev pub decreases-loop-k : goal.decreases-loop-k
decreases-loop-k l = length l.self.fresh.items - l.k
