use Rattle.std.proofs.Common.{◌≡◌, ℕ, suc, ◌<◌, [], length}
use Rattle.std.specs.Prelude.{false, true, slice_index_or}
use Rattle.am_tree.specs.Listed.{trees_of}
use Rattle.am_all.specs.inside.Levels.{IsToldLevel}
use Rattle.am_all.proofs.levels.above.Given as goal

abbrev pub invariant-loop-productions : goal.invariant-loop-productions
invariant-loop-productions l = record {
  pushed : length l.level ≡ l.productions-index;
  told : (d n : ℕ) → IsToldLevel (trees_of l.rules d) l.below → n < l.productions-index →
      slice_index_or l.level n true ≡ false → trees_of l.rules (suc d) n ≡ [];
}
