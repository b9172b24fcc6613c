use Rattle.std.proofs.Common.{ℕ, ◌≡◌, ◌+◌, ◌<◌, length, true}
use Rattle.std.specs.Prelude.{◌↔◌}
use Rattle.am_chain.specs.inside.Marks.{mark_at}
use Rattle.am_chain.proofs.trimming.last_alone.Given as goal

abbrev pub invariant-loop-k : goal.invariant-loop-k
invariant-loop-k l = record {
  len : length l.marks.items ≡ l.k;
  last : (i : ℕ) → (mark_at l.marks.items i ≡ true) ↔ ((i + 1 ≡ l.len) × (i < l.k));
}
