-- Answers are spelled as they are read, and read as they are spelled.
use Rattle.std.proofs.Common.{◌≡◌, ◌+◌, Bool, false, true, List, [], ◌∷◌, ◌++◌, ap, codes, refl, inl, inr}
use Rattle.std.specs.Prelude.{Some, ◌⊎◌}
use Rattle.am_query.specs.declared.asked.Asked.{Asked}
use Rattle.am_query.specs.declared.asked.Asked.TheVariants.{Keep, Precise, Sound, Start}
use Rattle.am_query.specs.declared.outcome.Outcome.{Outcome}
use Rattle.am_query.specs.declared.outcome.Outcome.TheVariants.{Absent, Best, Conflicts, Turns}
use Rattle.am_query.specs.declared.turn.Turn.{Turn}
use Rattle.am_syntax.specs.Exact.{IsExact, always}
use Rattle.am_syntax.specs.Pieces.{Piece, choice, closed, key_or, keyed, next_is, syntax}
use Rattle.am_syntax.specs.Readers.{Words}
use Rattle.am_syntax.proofs.Laws.{choice_law, closed_law, key_law, keyed_law, seen_law, then_law, times_law}
use Rattle.am_bv.specs.declared.term.Term.{Term}
use Rattle.am_cert.specs.Grammar.{AskedParts, ConflictParts, ExampleParts, HintedBest, HintedNone, NoneParts}
use Rattle.am_cert.specs.Grammar.{OutcomeParts, ProblemShape, answer, asked, asked_of, chained_of, chained_part}
use Rattle.am_cert.specs.Grammar.{hinted_best}
use Rattle.am_cert.specs.Grammar.{hinted_none, hinted_of, hinted_part, hints, asked_parts, best, example, log}
use Rattle.am_cert.specs.Grammar.{negative_count, none, outcome, outcome_of_parts, outcome_parts, spent_conflicts}
use Rattle.am_cert.specs.Grammar.{spent_turns, terms}
use Rattle.am_cert.specs.declared.answer.Proofs.{Proofs}
use Rattle.am_cert.specs.declared.answer.Proofs.TheVariants.{Chains, Hinted}
use Rattle.am_cert.specs.inside.Shapes.{IsProblemShape}
use Rattle.am_cert.specs.inside.Shown.{term_lines}
use Rattle.am_cert.proofs.RowLaws.{EndsNumbers, narrow_law, result_term_law, terms_law}
use Rattle.am_cert.proofs.TurnLaws.{EndsTurns, example_law, turns_law}
use Rattle.am_cert.proofs.ChainLaws.{EndsLog, log_law}
use Rattle.am_cert.proofs.HintLaws.{EndsHints, hints_law}
use Rattle.am_cert.proofs.PartialLaws.{seen_where_law}

asked_there : (x : AskedParts) → asked_parts (asked_of x) ≡ x
asked_there (inl u) = refl
asked_there (inr (inl x)) = refl
asked_there (inr (inr (inl t))) = refl
asked_there (inr (inr (inr t))) = refl

asked_back : (a : Asked) → asked_of (asked_parts a) ≡ a
asked_back Start = refl
asked_back (Keep t e places) = refl
asked_back (Sound t) = refl
asked_back (Precise t) = refl

outcome_there : (x : OutcomeParts) → outcome_parts (outcome_of_parts x) ≡ x
outcome_there (inl x) = refl
outcome_there (inr (inl x)) = refl
outcome_there (inr (inr (inl trace))) = refl
outcome_there (inr (inr (inr x))) = refl

outcome_back : (o : Outcome) → outcome_of_parts (outcome_parts o) ≡ o
outcome_back (Best t trace sound_log best_log) = refl
outcome_back (Absent trace log) = refl
outcome_back (Turns trace) = refl
outcome_back (Conflicts trace asked log) = refl

chained_back : (o : Outcome) (proofs : Proofs) (x : Outcome) → chained_part o proofs ≡ Some x →
    chained_of x ≡ record { outcome = o; proofs = proofs }
chained_back o Chains x e = let same : x ≡ o = cc in ap chained_of same
chained_back o (Hinted first second) x e = cc

hinted_there : (x : HintedBest ⊎ HintedNone) →
    hinted_part (hinted_of x).outcome (hinted_of x).proofs ≡ Some x
hinted_there (inl x) = refl
hinted_there (inr x) = refl

hinted_back : (o : Outcome) (proofs : Proofs) (x : HintedBest ⊎ HintedNone) → hinted_part o proofs ≡ Some x →
    hinted_of x ≡ record { outcome = o; proofs = proofs }
hinted_back (Best t trace [] []) (Hinted first second) x e =
    let same : x ≡ inl (t, (trace, (first, second))) = cc in ap hinted_of same
hinted_back (Best t trace [] []) Chains x e = cc
hinted_back (Best t trace [] (c ∷ log)) proofs x e = cc
hinted_back (Best t trace (c ∷ log) best_log) proofs x e = cc
hinted_back (Absent trace []) (Hinted first []) x e =
    let same : x ≡ inr (trace, first) = cc in ap hinted_of same
hinted_back (Absent trace []) (Hinted first (h ∷ second)) x e = cc
hinted_back (Absent trace []) Chains x e = cc
hinted_back (Absent trace (c ∷ log)) proofs x e = cc
hinted_back (Turns trace) proofs x e = cc
hinted_back (Conflicts trace asked log) proofs x e = cc

-- neither a turn nor a chain nor a hint nor a row of digits comes
pub record EndsAnswer (rest : Words) : Type 0 where
  pub turns : EndsTurns rest
  pub log : EndsLog rest
  pub hints : EndsHints rest

-- ---- the query

abbrev test_or : ProblemShape → Piece (List Term ⊎ List Term)
test_or s = choice (next_is (codes "sound")) (keyed (codes "sound") (terms s)) (keyed (codes "precise") (terms s))

abbrev keep_or : ProblemShape → List Turn → Piece (ExampleParts ⊎ (List Term ⊎ List Term))
keep_or s trace =
    choice (next_is (codes "keep")) (keyed (codes "keep") (example s (negative_count trace))) (test_or s)

tests_differ : (s : ProblemShape) (x : List Term ⊎ List Term) (rest : Words) →
    next_is (codes "keep") ((test_or s).spell x ++ rest) ≡ false
tests_differ s (inl t) rest = refl
tests_differ s (inr t) rest = refl

keeps_differ : (s : ProblemShape) (trace : List Turn) (x : ExampleParts ⊎ (List Term ⊎ List Term)) (rest : Words) →
    next_is (codes "start") ((keep_or s trace).spell x ++ rest) ≡ false
keeps_differ s trace (inl x) rest = refl
keeps_differ s trace (inr (inl t)) rest = refl
keeps_differ s trace (inr (inr t)) rest = refl

-- ---- the answer

conflicts_differ : (s : ProblemShape) (x : ConflictParts) (rest : Words) →
    next_is (codes "turns") ((spent_conflicts s).spell x ++ rest) ≡ false
unfolding spent_conflicts
conflicts_differ s x rest = refl

abbrev conflicts_or : ProblemShape → Piece (List Turn ⊎ ConflictParts)
conflicts_or s = choice (next_is (codes "turns")) (spent_turns s) (spent_conflicts s)

abbrev none_or : ProblemShape → Piece (NoneParts ⊎ (List Turn ⊎ ConflictParts))
none_or s = choice (next_is (codes "none")) (none s) (conflicts_or s)

spent_differ : (s : ProblemShape) (x : List Turn ⊎ ConflictParts) (rest : Words) →
    next_is (codes "none") ((conflicts_or s).spell x ++ rest) ≡ false
unfolding spent_turns spent_conflicts
spent_differ s (inl x) rest = refl
spent_differ s (inr x) rest = refl

others_differ : (s : ProblemShape) (x : NoneParts ⊎ (List Turn ⊎ ConflictParts)) (rest : Words) →
    next_is (codes "best") ((none_or s).spell x ++ rest) ≡ false
unfolding none spent_turns spent_conflicts
others_differ s (inl x) rest = refl
others_differ s (inr (inl x)) rest = refl
others_differ s (inr (inr x)) rest = refl

module _ (s : ProblemShape) (is : IsProblemShape s) where
  pub asked_law : (trace : List Turn) → IsExact (asked s trace) EndsNumbers
  unfolding asked key_or
  asked_law trace =
      keyed_law syntax (codes "query") (seen_law asked_of asked_parts
      (choice_law (next_is (codes "start")) (narrow_law (key_law syntax (codes "start")) (λ _ _. tt))
      (choice_law (next_is (codes "keep")) (keyed_law syntax (codes "keep") (example_law s is (negative_count trace)))
      (choice_law (next_is (codes "sound"))
      (narrow_law (keyed_law syntax (codes "sound") (terms_law s is)) (λ _ _. tt))
      (narrow_law (keyed_law syntax (codes "precise") (terms_law s is)) (λ _ _. tt))
      (λ _ _ _. refl) (λ _ _ _. refl) (λ _ _ _. refl))
      (λ _ _ _. refl) (λ x rest good. tests_differ s x rest) (λ _ _ _. refl))
      (λ _ _ _. refl) (λ x rest good. keeps_differ s trace x rest) (λ _ _ _. refl))
      (λ x good. asked_there x) asked_back)

  pub term_lines_law : IsExact (term_lines s) always
  term_lines_law = times_law (λ seen. keyed_law syntax (codes "term") (result_term_law s is)) (λ _ _ _ _. tt) s.fields

  pub best_law : IsExact (best s) EndsLog
  unfolding best log
  best_law =
      keyed_law syntax (codes "best")
      (then_law term_lines_law (λ _ _.
      then_law (turns_law s is s.turns) (λ _ _.
      then_law (log_law (codes "sound")) (λ _ _. log_law (codes "best"))
      (λ _ _ _ _ _ _. (refl, refl))) (λ _ _ _ _ _ _. (refl, refl))) (λ _ _ _ _ _ _. tt))

  pub none_law : IsExact (none s) EndsLog
  unfolding none log
  none_law =
      keyed_law syntax (codes "none")
      (then_law (turns_law s is s.turns) (λ _ _. log_law (codes "fit")) (λ _ _ _ _ _ _. (refl, refl)))

  pub spent_turns_law : IsExact (spent_turns s) EndsTurns
  unfolding spent_turns
  spent_turns_law = keyed_law syntax (codes "turns") (turns_law s is (s.turns + 1))

  pub spent_conflicts_law : IsExact (spent_conflicts s) EndsLog
  unfolding spent_conflicts asked log
  spent_conflicts_law =
      keyed_law syntax (codes "conflicts")
      (then_law (turns_law s is s.turns) (λ trace _.
      then_law (asked_law trace) (λ _ _. log_law (codes "spent")) (λ _ _ _ _ _ _. refl))
      (λ _ _ _ _ _ _. (refl, refl)))

  pub outcome_law : IsExact (outcome s) EndsAnswer
  unfolding outcome best none spent_turns
  outcome_law =
      seen_law outcome_of_parts outcome_parts
      (choice_law (next_is (codes "best")) (narrow_law best_law (λ rest ends. ends.log))
      (choice_law (next_is (codes "none")) (narrow_law none_law (λ rest ends. ends.log))
      (choice_law (next_is (codes "turns")) (narrow_law spent_turns_law (λ rest ends. ends.turns))
      (narrow_law spent_conflicts_law (λ rest ends. ends.log))
      (λ _ _ _. refl) (λ x rest _. conflicts_differ s x rest) (λ _ _ _. refl))
      (λ _ _ _. refl) (λ x rest _. spent_differ s x rest) (λ _ _ _. refl))
      (λ _ _ _. refl) (λ x rest _. others_differ s x rest) (λ _ _ _. refl))
      (λ x good. outcome_there x) outcome_back

  -- ---- the answer with hints

  pub hinted_best_law : IsExact (hinted_best s) EndsHints
  unfolding hinted_best hints
  hinted_best_law =
      keyed_law syntax (codes "best")
      (then_law term_lines_law (λ _ _.
      then_law (turns_law s is s.turns) (λ _ _.
      then_law (hints_law (codes "sound")) (λ _ _. hints_law (codes "best"))
      (λ _ _ _ _ _ _. (refl, refl))) (λ _ _ _ _ _ _. (refl, refl))) (λ _ _ _ _ _ _. tt))

  pub hinted_none_law : IsExact (hinted_none s) EndsHints
  unfolding hinted_none hints
  hinted_none_law =
      keyed_law syntax (codes "none")
      (then_law (turns_law s is s.turns) (λ _ _. hints_law (codes "fit")) (λ _ _ _ _ _ _. (refl, refl)))

  pub answer_law : (by_hints : Bool) → IsExact (answer by_hints s) EndsAnswer
  unfolding answer hinted_best hinted_none
  answer_law true =
      seen_where_law hinted_of (λ a. hinted_part a.outcome a.proofs)
      (choice_law (next_is (codes "best"))
      (narrow_law hinted_best_law (λ rest ends. ends.hints)) (narrow_law hinted_none_law (λ rest ends. ends.hints))
      (λ _ _ _. refl) (λ _ _ _. refl) (λ _ _ _. refl))
      hinted_there (λ a x e. hinted_back a.outcome a.proofs x e)
  answer_law false =
      seen_where_law chained_of (λ a. chained_part a.outcome a.proofs) outcome_law (λ x. refl)
      (λ a x e. chained_back a.outcome a.proofs x e)

  -- `answer`, an answer and `end`
  pub answered_law : (by_hints : Bool) →
      IsExact (closed (codes "end") (keyed (codes "answer") (answer by_hints s))) always
  answered_law by_hints =
      closed_law syntax (codes "end") (keyed_law syntax (codes "answer") (answer_law by_hints))
      (λ rest. record { turns = (refl, refl); log = (refl, refl); hints = (refl, refl) })
