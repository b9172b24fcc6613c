-- That an answer can be written after a problem is a fact: it holds in one way.
use Rattle.std.specs.Prelude.{ℕ, ◌+◌, ◌*◌, ◌^◌, List, [], ◌∷◌, ◌++◌, codes, min}
use Rattle.std.specs.Coded.{codes as coded, le_prop}
use Rattle.am_hint.specs.declared.hint.Hint.{Hint}
use Rattle.am_problem.specs.Texts.{Draft}
use Rattle.am_query.specs.declared.asked.Asked.TheVariants.{Keep, Precise, Sound, Start}
use Rattle.am_query.specs.declared.outcome.Outcome.{Outcome}
use Rattle.am_query.specs.declared.outcome.Outcome.TheVariants.{Absent, Best, Conflicts, Turns}
use Rattle.am_query.specs.declared.turn.Turn.{Turn}
use Rattle.am_query.specs.declared.turn.Turn.TheVariants.{Negative, Positive}
use Rattle.am_syntax.specs.Pieces.{Piece, below, good_from, key_or, keyed, number}
use Rattle.am_syntax.specs.Readers.{Word}
use Rattle.am_cert.specs.Certificate.{AreBounded, AreHints, AreHintsOf, AreProofsOf, IsHint}
use Rattle.am_cert.specs.Grammar.{ProblemShape, asked, best, chain, counterexample, example, log, negative_count, none}
use Rattle.am_cert.specs.Grammar.{outcome, place_after, places, result_term, shape_of, spent_conflicts, spent_turns}
use Rattle.am_cert.specs.Grammar.{step, terms, turn, turns, word, words}
use Rattle.am_cert.specs.declared.answer.Answer.{Answer}
use Rattle.am_cert.specs.declared.answer.Proofs.{Proofs}
use Rattle.am_cert.specs.declared.answer.Proofs.TheVariants.{Chains, Hinted}
use Rattle.am_cert.specs.declared.version.Version.{Version}
use Rattle.am_cert.specs.inside.Drafts.{CanFollow}

-- what a piece takes for good is a fact
abbrev IsSettled : {X : Type 0} → Piece X → Type 0
IsSettled {X = X} p = (x : X) → IsProp (p.Good x)

from-prop : {X : Type 0} (item : List X → Piece X) → ((seen : List X) → IsSettled (item seen)) → (seen xs : List X) →
    IsProp (good_from item seen xs)
from-prop item each seen [] = hlevel
from-prop item each seen (x ∷ xs) = hlevel (each seen x, from-prop item each (seen ++ x ∷ []) xs)

module _ (s : ProblemShape) where
  term-prop : IsSettled (result_term s)
  term-prop t = hlevel (coded, le_prop)

  terms-prop : IsSettled (terms s)
  terms-prop ts = hlevel (coded, from-prop (λ _. result_term s) (λ _. term-prop) [] ts)

  word-prop : IsSettled (word s)
  unfolding number
  word-prop n = hlevel le_prop

  words-prop : (count : ℕ) → IsSettled (words s count)
  words-prop count ns = hlevel (coded, from-prop (λ _. word s) (λ _. word-prop) [] ns)

  place-prop : (least count : ℕ) → IsSettled (below least count)
  unfolding below
  place-prop least count n = hlevel le_prop

  places-prop : (count : ℕ) → IsSettled (places count)
  places-prop count ns =
      from-prop (λ seen. below (place_after seen) (min count (2 ^ 32)))
      (λ seen. place-prop (place_after seen) (min count (2 ^ 32))) [] ns

  example-prop : (count : ℕ) → IsSettled (example s count)
  example-prop count x =
      hlevel (
        terms-prop x.0,
        words-prop (s.inputs * s.fields) x.1.0,
        words-prop s.inputs x.1.1.0,
        places-prop count x.1.1.1,
      )

  counterexample-prop : IsSettled (counterexample s)
  counterexample-prop x = hlevel (terms-prop x.0, words-prop (s.inputs * s.fields) x.1.0, word-prop x.1.1)

  turn-prop : (most : ℕ) (seen : List Turn) → IsSettled (turn s most seen)
  unfolding turn
  turn-prop most seen (Positive t e kept) =
      hlevel (coded, example-prop (negative_count seen) (t, (e.inputs, (e.words, kept))))
  turn-prop most seen (Negative t e) = hlevel (coded, counterexample-prop (t, (e.inputs, e.word)))

  turns-prop : (most : ℕ) → IsSettled (turns s most)
  unfolding turns
  turns-prop most trace = from-prop (turn s most) (turn-prop most) [] trace

  asked-prop : (trace : List Turn) → IsSettled (asked s trace)
  unfolding asked key_or
  asked-prop trace Start = hlevel
  asked-prop trace (Keep t e places) = example-prop (negative_count trace) (t, (e.inputs, (e.words, places)))
  asked-prop trace (Sound t) = terms-prop t
  asked-prop trace (Precise t) = terms-prop t

step-prop : IsSettled step
unfolding number
step-prop x = hlevel le_prop

chain-prop : IsSettled chain
unfolding chain number
chain-prop c = hlevel (le_prop, from-prop (λ _. step) (λ _. step-prop) [] c.steps)

log-prop : (name : Word) → IsSettled (log name)
unfolding log
log-prop name log = from-prop (λ _. chain) (λ _. chain-prop) [] log

outcome-prop : (s : ProblemShape) → IsSettled (outcome s)
unfolding outcome best none spent_turns spent_conflicts
outcome-prop s (Best t trace sound_log best_log) =
    hlevel (
      coded,
      from-prop (λ _. keyed (codes "term") (result_term s)) (λ _. term-prop s) [] t,
      turns-prop s s.turns trace,
      log-prop (codes "sound") sound_log,
      log-prop (codes "best") best_log,
    )
outcome-prop s (Absent trace log) = hlevel (turns-prop s s.turns trace, log-prop (codes "fit") log)
outcome-prop s (Turns trace) = turns-prop s (s.turns + 1) trace
outcome-prop s (Conflicts trace asked log) =
    hlevel (turns-prop s s.turns trace, asked-prop s trace asked, log-prop (codes "spent") log)

-- logs aren't too long in one way
bounded-prop : (o : Outcome) → IsProp (AreBounded o)
bounded-prop (Best t trace sound_log best_log) = hlevel le_prop
bounded-prop (Absent trace log) = hlevel le_prop
bounded-prop (Turns trace) = hlevel
bounded-prop (Conflicts trace asked log) = hlevel le_prop

hint-prop : (h : Hint) → IsProp (IsHint h)
hint-prop h = hlevel le_prop

list-prop : (hints : List Hint) → IsProp (AreHints hints)
list-prop hints = hlevel (le_prop, hint-prop)

hints-prop : (o : Outcome) (first second : List Hint) → IsProp (AreHintsOf o first second)
hints-prop (Best t trace [] []) first second = hlevel (list-prop first, list-prop second)
hints-prop (Best t trace [] (c ∷ best_log)) first second = hlevel
hints-prop (Best t trace (c ∷ sound_log) best_log) first second = hlevel
hints-prop (Absent trace []) first [] = list-prop first
hints-prop (Absent trace []) first (h ∷ second) = hlevel
hints-prop (Absent trace (c ∷ log)) first second = hlevel
hints-prop (Turns trace) first second = hlevel
hints-prop (Conflicts trace asked log) first second = hlevel

proofs-prop : (v : Version) (o : Outcome) (proofs : Proofs) → IsProp (AreProofsOf v o proofs)
proofs-prop v o Chains = hlevel coded
proofs-prop v o (Hinted first second) = hlevel (coded, hints-prop o first second)

-- an answer can follow a problem in one way
pub follow-prop : (v : Version) (d : Draft) (a : Answer) → IsProp (CanFollow v d a)
follow-prop v d a =
    hlevel (outcome-prop (shape_of d.lines) a.outcome, bounded-prop a.outcome, proofs-prop v a.outcome a.proofs)
