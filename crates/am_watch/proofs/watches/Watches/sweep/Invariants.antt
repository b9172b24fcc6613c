use Rattle.std.proofs.Common.{◌≡◌, ◌++◌, ◌-◌, ◌<◌, length}
use Rattle.am_watch.specs.Lists.{list_at}
use Rattle.am_watch.specs.Watching.{Extends, KeepsWatches}
use Rattle.am_watch.proofs.Sweeping.{AreDone}
use Rattle.am_watch.proofs.watches.Watches.sweep.Given as goal

abbrev pub invariant-loop-j : goal.invariant-loop-j
invariant-loop-j l = record {
  holds : KeepsWatches l.self.lists l.self.pairs.items l.self.fresh.items (l.given ++ l.learnt) l.trail;
  extends : Extends (l.given ++ l.learnt) l.initial.trail l.trail;
  head : l.trail.head ≡ l.initial.trail.head;
  fresh : l.self.fresh.items ≡ l.initial.self.fresh.items;
  code : l.l < length l.self.lists;
  done : AreDone (l.given ++ l.learnt) (list_at l.self.lists l.l) l.trail.entries l.j;
}

abbrev pub decreases-loop-j : goal.decreases-loop-j
decreases-loop-j l = length (list_at l.self.lists l.l) - l.j
