use Rattle.std.proofs.Common.{◌≡◌, ℕ, List, ◌++◌, length, map, sum_by, take, drop}
use Rattle.std.specs.Prelude.{All}
use Rattle.am_gate.specs.Circuit.{Net, Grows, Begins}
use Rattle.am_gate.specs.Build.{Follows}
use Rattle.am_bv.specs.Terms.{weight}
use Rattle.am_blast.specs.Words.{IsWord}
use Rattle.am_blast.specs.Circuits.{blasted, in_turn}
use Rattle.am_blast.proofs.terms.+word_of.Given as goal

abbrev pub decreases-word_of : goal.decreases-word_of
decreases-word_of l = goal.size-word_of l

abbrev pub invariant-loop-t : goal.invariant-loop-t
invariant-loop-t l = record {
  follows : (rest : List (List ℕ)) (end : Net) →
      Follows (in_turn (map (blasted l.w l.fields) (drop l.t-index l.t-items))) l.circuit rest end →
      Follows (in_turn (map (blasted l.w l.fields) l.t-items)) l.initial.circuit (l.words ++ rest) end;
  count : length l.words ≡ l.t-index;
  words : All (IsWord l.w l.circuit.vars) l.words;
  grows : Grows (sum_by (weight l.w) (take l.t-index l.t-items)) l.initial.circuit l.circuit;
  begins : Begins l.initial.circuit l.circuit;
}
