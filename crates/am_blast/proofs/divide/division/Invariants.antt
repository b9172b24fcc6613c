use Rattle.std.proofs.Common.{ℕ, List, [], ◌∷◌, ◌++◌, ◌+◌, ◌-◌, ◌*◌, drop, length, reverse}
use Rattle.am_gate.specs.Circuit.{Net, HasRoom, Begins, falsity}
use Rattle.am_gate.specs.Build.{Follows}
use Rattle.am_blast.specs.Words.{IsWord}
use Rattle.am_blast.specs.Division.{division_from, division}
use Rattle.am_blast.proofs.divide.division.Given as goal

abbrev pub invariant-loop-l : goal.invariant-loop-l
invariant-loop-l s = record {
  follows : (o : List ℕ × List ℕ) (end : Net) →
      Follows (division_from (drop s.l-index (reverse s.a)) (reverse s.from_top) s.remainder (s.b ++ falsity ∷ []))
      s.circuit o end →
      Follows (division s.a s.b) s.initial.circuit o end;
  word : IsWord (length s.b + 1) s.circuit.vars s.remainder;
  room : HasRoom ((length s.a - s.l-index) * (4 * (length s.b + 1))) s.circuit;
  begins : Begins s.initial.circuit s.circuit;
}
