use Rattle.std.proofs.Common.{◌≡◌, drop, bytes_eq, find}
use Rattle.am_problem.specs.Kinds.{kind_name}
use Rattle.am_problem.specs.Grammar.{kind_named}
use Rattle.am_problem.proofs.kind.Kind.named.Given as goal

abbrev pub invariant-loop-kind : goal.invariant-loop-kind
invariant-loop-kind l =
    kind_named l.word ≡ find (λ kind. bytes_eq (kind_name kind) l.word) (drop l.kind-index l.kind-items)
