use Rattle.std.proofs.Common.{◌-◌, arith, ap}
use Rattle.am_trail.specs.declared.entry.Entry.{Entry}
use Rattle.am_lit.proofs.Laws.{same_or}
use Rattle.std.proofs.Common.{inl, inr}
use Rattle.am_trail.proofs.Leading.{level_at, level_read, prefix_upto}
use Rattle.am_trail.proofs.trail.count_upto.Goals as goal

pub loop-len-preserved : goal.loop-len-preserved
loop-len-preserved c =
    let at = level_at c.args.entries.now (c.loop-len.len - 1) c.index-entries-len.result
    (omega arith) c.index-entries-len.is in
    record {
      within = omega arith;
      above = λ k lo hi. elim (same_or k (c.loop-len.len - 1)) [
        | inl e ↦ rw e (omega (arith, at, ap (λ (e : Entry). e.level) c.index-entries-len.is))
        | inr ne ↦ c.loop-len.invariant.above k (omega arith) hi
      ];
    }

pub returns-else-entries-len-clause-prefix : goal.returns-else-entries-len-clause-prefix
returns-else-entries-len-clause-prefix c =
    let at = level_at c.args.entries.now (c.loop-len.len - 1) c.index-entries-len.result
    (omega arith) c.index-entries-len.is in
    prefix_upto c.args.level 0 c.args.entries.now c.requires.0 c.loop-len.len c.requires.1 c.loop-len.invariant.within
    c.loop-len.invariant.above (λ pos. omega (arith, at, ap (λ (e : Entry). e.level) c.index-entries-len.is))

pub returns-after-loop-len-clause-prefix : goal.returns-after-loop-len-clause-prefix
returns-after-loop-len-clause-prefix c =
    prefix_upto c.args.level 0 c.args.entries.now c.requires.0 c.loop-len.len c.requires.1 c.loop-len.invariant.within
    c.loop-len.invariant.above (λ pos. absurd (omega arith))

pub returns-else-entries-len-clause-above : goal.returns-else-entries-len-clause-above
returns-else-entries-len-clause-above c =
    λ k d le lt. rw (level_read c.args.entries.now k d lt) at (c.loop-len.invariant.above k le lt)

pub returns-after-loop-len-clause-above : goal.returns-after-loop-len-clause-above
returns-after-loop-len-clause-above c = λ k d le lt. rw (level_read c.args.entries.now k d lt)
    at (c.loop-len.invariant.above k le lt)
