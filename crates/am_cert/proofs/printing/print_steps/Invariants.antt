use Rattle.std.proofs.Common.{◌≡◌, ◌∷◌, ◌++◌, flat_map, take}
use Rattle.am_syntax.specs.Canonical.{spaced}
use Rattle.am_cert.specs.Printing.{step_words}
use Rattle.am_cert.proofs.printing.print_steps.Given as goal

abbrev pub invariant-steps : goal.invariant-steps
invariant-steps l = l.out ≡ l.initial.out ++ flat_map (λ step. 32 ∷ spaced (step_words step))
    (take l.step-index l.steps)
