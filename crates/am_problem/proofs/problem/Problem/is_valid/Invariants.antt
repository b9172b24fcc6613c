use Rattle.std.proofs.Common.{ℕ, ◌<◌, [], get_or}
use Rattle.am_problem.specs.Examples.{inputs_of}
use Rattle.am_problem.specs.Kinds.{meaning_of}
use Rattle.am_problem.proofs.problem.Problem.is_valid.Given as goal

abbrev pub invariant-loop-i : goal.invariant-loop-i
invariant-loop-i l =
    (k : ℕ) → k < l.i → (meaning_of l.self.kind).Valid l.self.width (get_or (inputs_of l.self l.inputs) k [])
