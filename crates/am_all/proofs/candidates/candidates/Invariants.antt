use Rattle.std.proofs.Common.{◌≡◌, map, take}
use Rattle.std.specs.Prelude.{All}
use Rattle.am_all.specs.inside.Candidates.{HasCaseValues}
use Rattle.am_all.proofs.candidates.candidates.Given as goal

abbrev pub invariant-loop-tree : goal.invariant-loop-tree
invariant-loop-tree l = record {
  trees : map (λ c. c.tree) l.candidates ≡ take l.tree-index l.tree-items;
  values : All (HasCaseValues l.p l.cases l.start) l.candidates;
}
