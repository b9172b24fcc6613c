-- What `make` writes: a summary of a made problem and of its best transformer.
use Rattle.std.specs.Prelude.{◌≡◌, ℕ, List, [], ◌∷◌, codes, decimal, map}
use Rattle.am_bv.specs.declared.term.Term.{Term}
use Rattle.am_cert.specs.Printing.{certificate_text, term_row}
use Rattle.am_problem.specs.Generator.{made_problem_of}
use Rattle.am_problem.specs.Limits.{slots_of}
use Rattle.am_problem.specs.Loads.{load_of}
use Rattle.am_query.specs.declared.outcome.Outcome.{Outcome}
use Rattle.am_query.specs.declared.outcome.Outcome.TheVariants.{Absent, Best, Conflicts, Turns}
use Rattle.am_syntax.specs.Canonical.{lines}
use Rattle.am_syntax.specs.Readers.{Word, Words}
use Rattle.am_tree.specs.Counts.{tuple_count}
use Rattle.amurth.specs.Synthesised.{HasEnded, certificate}
use Rattle.amurth.specs.declared.status.Status.{Status}

-- a key word and a number
abbrev pub number_row : Word → ℕ → Words
number_row key n = key ∷ decimal n ∷ []

-- the number of the problem, its slots, its tuples of trees and its load, and best terms
abbrev pub summary : ℕ → List Term → List ℕ
summary n terms =
    let p = made_problem_of n in
    lines (
    number_row (codes "make") n ∷
    number_row (codes "slots") (slots_of p) ∷
    number_row (codes "tuples") (tuple_count p.rules p.starts p.depth) ∷
    number_row (codes "load") (load_of p) ∷
    (codes "answer" ∷ codes "best" ∷ []) ∷
    map term_row terms)

-- the summary of a best transformer, and the certificate of what was spent; some transformer is always sound
abbrev pub IsMadeText : ℕ → Outcome → List ℕ → Type 0
IsMadeText n (Best t trace sound_log best_log) written = written ≡ summary n t
IsMadeText n (Absent trace log) written = ⊥
IsMadeText n (Turns trace) written = written ≡ certificate_text (certificate (made_problem_of n) (Turns trace))
IsMadeText n (Conflicts trace asked log) written =
    written ≡ certificate_text (certificate (made_problem_of n) (Conflicts trace asked log))

-- what `make` writes for a number, by the status after it
pub record IsMakeDue (n : ℕ) (status : Status) (written : List ℕ) : Type 0 where
  pub outcome : Outcome
  pub synthesis : HasEnded (made_problem_of n) status outcome
  pub wrote : IsMadeText n outcome written
