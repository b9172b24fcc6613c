use Rattle.std.proofs.Common.{ℕ, List, ◌++◌, drop}
use Rattle.am_gate.specs.Circuit.{Net, Grows, Begins}
use Rattle.am_gate.specs.Build.{Follows}
use Rattle.am_blast.specs.Products.{each_and}
use Rattle.am_blast.proofs.product.each_and.Given as goal

abbrev pub invariant-loop-l : goal.invariant-loop-l
invariant-loop-l s = record {
  follows : (rest : List ℕ) (end : Net) → Follows (each_and s.b (drop s.l-index s.word)) s.circuit rest end →
      Follows (each_and s.b s.word) s.initial.circuit (s.row ++ rest) end;
  grows : Grows s.l-index s.initial.circuit s.circuit;
  begins : Begins s.initial.circuit s.circuit;
}
