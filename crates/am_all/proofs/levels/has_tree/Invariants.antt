use Rattle.std.proofs.Common.{◌≡◌, ℕ, List, [], take}
use Rattle.std.specs.Prelude.{All}
use Rattle.am_tree.specs.declared.tree.Tree.{Tree}
use Rattle.am_tree.specs.Listed.{trees_by}
use Rattle.am_all.specs.inside.Levels.{IsToldLevel}
use Rattle.am_all.proofs.levels.has_tree.Given as goal

abbrev pub invariant-loop-production : goal.invariant-loop-production
invariant-loop-production l =
    (f : ℕ → List Tree) → IsToldLevel f l.below →
    All (λ p. (i : ℕ) → trees_by f i p ≡ []) (take l.production-index l.productions)
