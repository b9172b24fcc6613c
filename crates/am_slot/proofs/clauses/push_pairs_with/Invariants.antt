use Rattle.std.proofs.Common.{◌≡◌, [], ◌∷◌, ◌++◌, map, take}
use Rattle.am_lit.specs.Literal.{opposite_of}
use Rattle.am_slot.proofs.clauses.push_pairs_with.Given as goal

abbrev pub invariant-loop-other : goal.invariant-loop-other
invariant-loop-other l =
    l.clauses ≡ l.initial.clauses ++ map (λ m. opposite_of l.literal ∷ opposite_of m ∷ []) (take l.other-index l.later)
