-- Inputs and clauses, one after another.
use Rattle.std.proofs.Common.{ℕ, suc, List, [], ◌∷◌}
use Rattle.am_gate.specs.Circuit.{Event.Input, Net}
use Rattle.am_gate.specs.Build.{ask, tell, Follows}
use Rattle.am_gate.proofs.Laws.{Follows-bind, Follows-answer}
use Rattle.am_slot.specs.Template.{inputs, told}

-- one input, then the others
pub Follows-one_input : (k g : ℕ) (a b c : Net) → Follows (ask Input) a g b → Follows (inputs k) b tt c
    → Follows (inputs (suc k)) a tt c
unfolding inputs
Follows-one_input k g a b c one rest = Follows-bind _ one rest

-- no input needs no call
pub Follows-no_input : (a : Net) → Follows (inputs 0) a tt a
unfolding inputs
Follows-no_input a = Follows-answer

-- one clause, then the others
pub Follows-clause : (clause : List ℕ) (cs : List (List ℕ)) (a b c : Net) → Follows (tell clause) a tt b
    → Follows (told cs) b tt c
    → Follows (told (clause ∷ cs)) a tt c
unfolding told
Follows-clause clause cs a b c one rest = Follows-bind _ one rest

-- no clause needs no call
pub Follows-no_clause : (a : Net) → Follows (told []) a tt a
unfolding told
Follows-no_clause a = Follows-answer
