-- What the outcome of a synthesis gives for its certificate.
use Rattle.std.proofs.Common.{◌≡◌, ℕ, List, subst, sym}
use Rattle.am_cert.specs.Printing.{IsWritable}
use Rattle.am_chain.specs.declared.chain.Chain.{Chain}
use Rattle.am_dual.specs.Synthesis.{IsSynthesis}
use Rattle.am_problem.specs.Generator.{HasSound, made_problem_of}
use Rattle.am_problem.specs.Problem.{Problem}
use Rattle.am_problem.proofs.Laws.{made-sound}
use Rattle.am_query.specs.declared.outcome.Outcome.{Outcome}
use Rattle.am_query.specs.declared.outcome.Outcome.TheVariants.{Absent, Best, Conflicts, Turns}
use Rattle.am_query.specs.declared.turn.Turn.{Turn}

-- the outcome of a synthesis can be written
pub synthesis_writable : (p : Problem) (o : Outcome) → IsSynthesis p o → IsWritable p o
synthesis_writable p (Best t trace sound_log best_log) h = (h.0.derivable, h.2.valid, h.2.few, h.3, h.4)
synthesis_writable p (Absent trace log) h = (h.2.valid, h.2.few, h.3)
synthesis_writable p (Turns trace) h = h
synthesis_writable p (Conflicts trace asked log) h = (h.0.valid, h.0.few, h.1, h.2)

-- some transformer of a made problem is sound
pub made_not_absent : (n : ℕ) (p : Problem) → p ≡ made_problem_of n → (trace : List Turn) (log : List Chain)
    → ¬ IsSynthesis p (Absent trace log)
made_not_absent n p same trace log h =
    let some = subst HasSound (sym same) (made-sound n) in
    h.0 some.terms some.derivable some.sound
