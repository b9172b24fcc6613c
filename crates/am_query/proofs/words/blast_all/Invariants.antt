use Rattle.std.proofs.Common.{ℕ, List, ◌++◌, map, sum_by, take, drop}
use Rattle.am_gate.specs.Circuit.{Net, Grows}
use Rattle.am_gate.specs.Build.{Follows}
use Rattle.am_bv.specs.Terms.{weight}
use Rattle.am_blast.specs.Circuits.{blasted, in_turn}
use Rattle.am_query.specs.inside.Words.{AreWordsIn}
use Rattle.am_query.proofs.words.blast_all.Given as goal

abbrev pub invariant-loop-term : goal.invariant-loop-term
invariant-loop-term l = record {
  follows : (rest : List (List ℕ)) (end : Net) →
      Follows (in_turn (map (blasted l.w l.fields) (drop l.term-index l.terms))) l.circuit rest end →
      Follows (in_turn (map (blasted l.w l.fields) l.terms)) l.initial.circuit (l.words ++ rest) end;
  words : AreWordsIn l.w l.term-index l.circuit.vars l.words;
  grows : Grows (sum_by (weight l.w) (take l.term-index l.terms)) l.initial.circuit l.circuit;
}
