use Rattle.std.proofs.Common.{◌≡◌, ℕ, take, true}
use Rattle.std.specs.Prelude.{Contains, ◌↔◌}
use Rattle.am_chain.specs.inside.Marks.{mark_at}
use Rattle.am_chain.proofs.marks.Marks.fill.Given as goal

abbrev pub invariant-loop-l : goal.invariant-loop-l
invariant-loop-l s = (m : ℕ) → (mark_at s.self m ≡ true) ↔ Contains (take s.l-index s.clause) m
