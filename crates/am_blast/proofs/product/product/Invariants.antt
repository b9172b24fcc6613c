use Rattle.std.proofs.Common.{ℕ, List, ◌-◌, drop, length}
use Rattle.am_gate.specs.Circuit.{Net, HasRoom, Begins}
use Rattle.am_gate.specs.Build.{Follows}
use Rattle.am_blast.specs.Words.{IsWord}
use Rattle.am_blast.specs.Products.{product_from, product}
use Rattle.am_blast.proofs.Products.{row_gates}
use Rattle.am_blast.proofs.product.product.Given as goal

abbrev pub invariant-loop-i : goal.invariant-loop-i
invariant-loop-i l = record {
  follows : (r : List ℕ) (end : Net) → Follows (product_from l.i l.acc l.a (drop l.i l.b)) l.circuit r end →
      Follows (product l.a l.b) l.initial.circuit r end;
  word : IsWord (length l.a) l.circuit.vars l.acc;
  room : HasRoom (row_gates (length l.a) (length l.a - l.i)) l.circuit;
  begins : Begins l.initial.circuit l.circuit;
}
