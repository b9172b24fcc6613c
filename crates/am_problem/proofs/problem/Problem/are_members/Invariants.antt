use Rattle.std.proofs.Common.{ℕ, ◌<◌, [], get_or}
use Rattle.am_problem.specs.Examples.{inputs_of}
use Rattle.am_problem.specs.Kinds.{meaning_of}
use Rattle.am_problem.proofs.problem.Problem.are_members.Given as goal

abbrev pub invariant-loop-i : goal.invariant-loop-i
invariant-loop-i l =
    let meaning = meaning_of l.self.kind in
    (k : ℕ) → k < l.i → meaning.Member l.self.width (get_or (inputs_of l.self l.inputs) k []) (get_or l.words k 0)
