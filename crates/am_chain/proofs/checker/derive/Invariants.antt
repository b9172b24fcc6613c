use Rattle.std.proofs.Common.{◌≡◌, ℕ, ◌+◌, ◌++◌, List, drop}
use Rattle.am_chain.specs.Chains.{after_steps, clause_of}
use Rattle.am_chain.specs.inside.Marks.{AreMarksOf}
use Rattle.am_chain.proofs.checker.derive.Given as goal

abbrev pub invariant-loop-step : goal.invariant-loop-step
invariant-loop-step l = record {
  place : l.place ≡ l.step-index;
  so_far : (c : List ℕ) × AreMarksOf c l.current
      × (after_steps (l.given ++ l.derived) (l.step-index + 1) c (drop l.step-index l.chain.steps)
      ≡ clause_of (l.given ++ l.derived) l.chain);
}
