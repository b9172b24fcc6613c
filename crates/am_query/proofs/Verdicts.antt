-- Tests have one verdict, and verdicts on items, logs and hints.
use Rattle.std.proofs.Common.{◌≡◌, ℕ, zero, suc, ◌+◌, ◌⊎◌, Bool, List, [], ◌∷◌, ◌++◌, length, take, zip, refl, sym}
use Rattle.std.proofs.Common.{◌∙◌, ap, subst, inl, inr, arith, add-zero, zero-add}
use Rattle.std.proofs.lemmas.List.{same_from_push}
use Rattle.std.specs.Prelude.{Option, None, Some, Ok, Err, Result, slice_get}
use Rattle.std.specs.List.{All}
use Rattle.std.proofs.lemmas.List.Elements.{All-head, All-tail}
use Rattle.am_chain.specs.Replay.{EndsEmpty, LogFault, replay}
use Rattle.am_chain.specs.declared.chain.Chain.{Chain}
use Rattle.am_gate.specs.Circuit.{Net}
use Rattle.am_hint.specs.HintReplay.{HintsFault, hint_clauses, hints_fault}
use Rattle.am_hint.specs.declared.hint.Hint.{Hint}
use Rattle.am_problem.specs.Problem.{Problem}
use Rattle.am_query.specs.Acceptance.{IsHintsFault, IsLogFault, Test, acceptance_by, ◌before◌, condition, each_is}
use Rattle.am_query.specs.Acceptance.{first_log, hints_refute, refuted, second_log}
use Rattle.am_query.specs.AcceptanceLaws.{AreDecided, HasOneVerdict, HintsAreTestedInTurn, IsDecidedTest}
use Rattle.am_query.specs.AcceptanceLaws.{LogsAreTestedInTurn, VerdictsAreUnique, VerdictsExist}
use Rattle.am_query.specs.Turns.{after_trace}
use Rattle.am_query.specs.declared.fault.Fault.{Fault}
use Rattle.am_query.specs.declared.fault.Fault.TheVariants.{BadChain, BadHint, NegativeFalse, NotEmpty, PositiveFalse}
use Rattle.am_query.specs.declared.fault.Fault.TheVariants.{TermOutside, Unfinished}
use Rattle.am_query.specs.declared.outcome.Outcome.{Outcome}
use Rattle.am_query.specs.declared.outcome.Outcome.TheVariants.{Absent, Best, Conflicts, Turns}
use Rattle.am_query.proofs.KeptPlaces.{by_last}

-- ---- one verdict at most

one_condition : (P : Type 0) (fault : Fault) → HasOneVerdict (condition P fault)
one_condition P fault = record {
  apart = λ h f fails. fails.0 h;
  one = λ f g x y. x.1 ∙ sym y.1;
}

one_before : (a b : Test) → HasOneVerdict a → HasOneVerdict b → HasOneVerdict (a before b)
one_before a b x y = record {
  apart = λ passes f fails. elim fails [
    | inl first ↦ x.apart passes.0 f first
    | inr later ↦ y.apart passes.1 f later.1
  ];
  one = λ f g h k. elim h [
    | inl first ↦ elim k [ inl other ↦ x.one f g first other | inr later ↦ absurd (x.apart later.0 f first) ]
    | inr later ↦ elim k [ inl first ↦ absurd (x.apart later.0 g first) | inr other ↦ y.one f g later.1 other.1 ]
  ];
}

one_each : {A : Type 0} (Good : A → Type 0) (fault : ℕ → Fault) (i : ℕ) (items : List A) →
    HasOneVerdict (each_is Good fault i items)
one_each Good fault i [] = one_condition (Unit {0}) (fault i)
one_each Good fault i (x ∷ xs) =
    one_before (condition (Good x) (fault i)) (each_is Good fault (suc i) xs)
    (one_condition (Good x) (fault i)) (one_each Good fault (suc i) xs)

one_log : (j : ℕ) (clauses : List (List ℕ)) (log : List Chain) → HasOneVerdict (refuted j clauses log)
one_log j clauses log = record {
  apart = λ passes f fails.
      (subst (λ (r : Result (List (List ℕ)) LogFault). IsLogFault j r f) passes.1 fails).0 passes.2;
  one = λ f g. go (replay clauses [] log) f g;
}
  where
    go : (r : Result (List (List ℕ)) LogFault) (f g : Fault) → IsLogFault j r f → IsLogFault j r g → f ≡ g
    go (Ok derived) f g x y = x.1 ∙ sym y.1
    go (Err bad) f g x y = x ∙ sym y

one_hints : (j vars : ℕ) (clauses : List (List ℕ)) (hints : List Hint) →
    HasOneVerdict (hints_refute j vars clauses hints)
one_hints j vars clauses hints = record {
  apart = λ passes f fails. (subst (λ (r : Option HintsFault). IsHintsFault j hints r f) passes.0 fails).0 passes.1;
  one = λ f g. go (hints_fault vars clauses 0 hints) f g;
}
  where
    go : (r : Option HintsFault) (f g : Fault) → IsHintsFault j hints r f → IsHintsFault j hints r g → f ≡ g
    go None f g x y = x.1 ∙ sym y.1
    go (Some bad) f g x y = x ∙ sym y

-- an outcome has one verdict by tests that have one
one_by : (folding : Bool) (p : Problem) (o : Outcome) (first second : Net → Test) →
    ((c : Net) → HasOneVerdict (first c)) → ((c : Net) → HasOneVerdict (second c)) →
    HasOneVerdict (acceptance_by folding p o first second)
one_by folding p (Best t trace sound_log best_log) first second one two =
    one_before _ _
    (one_before _ _ (one_each _ TermOutside 0 (zip p.starts t)) (one_condition (length t ≡ length p.starts) _))
    (one_before _ _ (one_each _ PositiveFalse 0 (after_trace trace).positives)
    (one_before _ _ (one_each _ NegativeFalse 0 (after_trace trace).negatives)
    (one_before _ _ (one _) (two _))))
one_by folding p (Absent trace log) first second one two =
    one_before _ _ (one_each _ PositiveFalse 0 (after_trace trace).positives) (one _)
one_by folding p (Turns trace) first second one two = one_condition ⊥ Unfinished
one_by folding p (Conflicts trace asked log) first second one two = one_condition ⊥ Unfinished

-- an outcome isn't both accepted and at fault, and has one fault at most
pub verdicts_are_unique : VerdictsAreUnique
verdicts_are_unique folding p o = (
  one_by folding p o
      (λ c. refuted 0 c.clauses (first_log o)) (λ c. refuted 1 c.clauses (second_log o))
      (λ c. one_log 0 c.clauses (first_log o)) (λ c. one_log 1 c.clauses (second_log o)),
  (λ first second. one_by folding p o
      (λ c. hints_refute 0 c.vars c.clauses first) (λ c. hints_refute 1 c.vars c.clauses second)
      (λ c. one_hints 0 c.vars c.clauses first) (λ c. one_hints 1 c.vars c.clauses second)),
)

-- ---- one verdict at least

decided_condition : (P : Type 0) (fault : Fault) → P ⊎ (¬ P) → IsDecidedTest (condition P fault)
decided_condition P fault h = elim h [ inl is ↦ inl is | inr is_not ↦ inr (fault, (is_not, refl)) ]

decided_before : (a b : Test) → IsDecidedTest a → IsDecidedTest b → IsDecidedTest (a before b)
decided_before a b x y = elim x [
  | inr first ↦ inr (first.0, inl first.1)
  | inl passes ↦ elim y [ inl both ↦ inl (passes, both) | inr later ↦ inr (later.0, inr (passes, later.1)) ]
]

decided_each : {A : Type 0} (Good : A → Type 0) (fault : ℕ → Fault) (i : ℕ) (items : List A) →
    ((x : A) → Good x ⊎ (¬ Good x)) →
    IsDecidedTest (each_is Good fault i items)
decided_each Good fault i [] decide = inl tt
decided_each Good fault i (x ∷ xs) decide =
    decided_before (condition (Good x) (fault i)) (each_is Good fault (suc i) xs)
    (decided_condition (Good x) (fault i) (decide x)) (decided_each Good fault (suc i) xs decide)

decided_end : (derived : List (List ℕ)) → EndsEmpty derived ⊎ (¬ EndsEmpty derived)
decided_end derived = elim (by_last derived) [
  | inl none ↦ inr (λ ends. no_last ends.0 (sym ends.1 ∙ none))
  | inr more ↦ go more.1 (λ empty. (more.0, more.2 ∙ ap (λ c. more.0 ++ c ∷ []) empty))
      (λ ends. (same_from_push more.0 ends.0 more.1 [] (sym more.2 ∙ ends.1)).1)
]
  where
    no_last : (front : List (List ℕ)) → front ++ [] ∷ [] ≡ [] → ⊥
    no_last [] e = cc
    no_last (c ∷ cs) e = cc

    go : {E : Type 0} (c : List ℕ) → (c ≡ [] → E) → (E → c ≡ []) → E ⊎ (¬ E)
    go [] there back = inl (there refl)
    go (l ∷ ls) there back = inr (λ e. absurd (nothing (back e)))
      where
        nothing : l ∷ ls ≡ [] → ⊥
        nothing e = cc

at_log : (j : ℕ) (clauses : List (List ℕ)) (log : List Chain) (r : Result (List (List ℕ)) LogFault) (f : Fault) →
    replay clauses [] log ≡ r → IsLogFault j r f → (refuted j clauses log).Fails f
at_log j clauses log r f e is = subst (λ (s : Result (List (List ℕ)) LogFault). IsLogFault j s f) (sym e) is

decided_log : (j : ℕ) (clauses : List (List ℕ)) (log : List Chain) → IsDecidedTest (refuted j clauses log)
decided_log j clauses log = go (replay clauses [] log) refl
  where
    go : (r : Result (List (List ℕ)) LogFault) → replay clauses [] log ≡ r → IsDecidedTest (refuted j clauses log)
    go (Ok derived) e = elim (decided_end derived) [
      | inl ends ↦ inl (derived, e, ends)
      | inr full ↦ inr (NotEmpty j, at_log j clauses log (Ok derived) (NotEmpty j) e (full, refl))
    ]
    go (Err bad) e = let fault = BadChain j bad.chain bad.fault.step bad.fault.why in
        inr (fault, at_log j clauses log (Err bad) fault e refl)

at_hints : (j vars : ℕ) (clauses : List (List ℕ)) (hints : List Hint) (r : Option HintsFault) (f : Fault) →
    hints_fault vars clauses 0 hints ≡ r → IsHintsFault j hints r f → (hints_refute j vars clauses hints).Fails f
at_hints j vars clauses hints r f e is = subst (λ (s : Option HintsFault). IsHintsFault j hints s f) (sym e) is

decided_hints : (j vars : ℕ) (clauses : List (List ℕ)) (hints : List Hint) →
    IsDecidedTest (hints_refute j vars clauses hints)
decided_hints j vars clauses hints = go (hints_fault vars clauses 0 hints) refl
  where
    go : (r : Option HintsFault) → hints_fault vars clauses 0 hints ≡ r → IsDecidedTest
        (hints_refute j vars clauses hints)
    go None e = elim (decided_end (hint_clauses hints)) [
      | inl ends ↦ inl (e, ends)
      | inr full ↦ inr (NotEmpty j, at_hints j vars clauses hints None (NotEmpty j) e (full, refl))
    ]
    go (Some bad) e = let fault = BadHint j bad.hint bad.fault.place bad.fault.why in
        inr (fault, at_hints j vars clauses hints (Some bad) fault e refl)

-- numbers are the same or not
same_or_not : (m n : ℕ) → (m ≡ n) ⊎ (¬ (m ≡ n))
same_or_not zero zero = inl refl
same_or_not zero (suc n) = inr (λ e. omega (arith, e))
same_or_not (suc m) zero = inr (λ e. omega (arith, e))
same_or_not (suc m) (suc n) = elim (same_or_not m n) [
  | inl same ↦ inl (ap suc same)
  | inr other ↦ inr (λ e. other (omega (arith, e)))
]

-- an outcome is decided by tests that are
decided_by : (folding : Bool) (p : Problem) → AreDecided p → (o : Outcome) (first second : Net → Test) →
    ((c : Net) → IsDecidedTest (first c)) → ((c : Net) → IsDecidedTest (second c)) →
    IsDecidedTest (acceptance_by folding p o first second)
decided_by folding p decide (Best t trace sound_log best_log) first second one two =
    decided_before _ _
    (decided_before _ _ (decided_each _ TermOutside 0 (zip p.starts t) (λ pair. decide.given pair.0 pair.1))
    (decided_condition (length t ≡ length p.starts) _ (same_or_not (length t) (length p.starts))))
    (decided_before _ _ (decided_each _ PositiveFalse 0 (after_trace trace).positives decide.true)
    (decided_before _ _ (decided_each _ NegativeFalse 0 (after_trace trace).negatives (decide.excluded t))
    (decided_before _ _ (one _) (two _))))
decided_by folding p decide (Absent trace log) first second one two =
    decided_before _ _ (decided_each _ PositiveFalse 0 (after_trace trace).positives decide.true) (one _)
decided_by folding p decide (Turns trace) first second one two = inr (Unfinished, ((λ none. none), refl))
decided_by folding p decide (Conflicts trace asked log) first second one two =
    inr (Unfinished, ((λ none. none), refl))

-- where the conditions are decided, an outcome is accepted or has a fault
pub verdicts_exist : VerdictsExist
verdicts_exist folding p decide o = (
  decided_by folding p decide o
      (λ c. refuted 0 c.clauses (first_log o)) (λ c. refuted 1 c.clauses (second_log o))
      (λ c. decided_log 0 c.clauses (first_log o)) (λ c. decided_log 1 c.clauses (second_log o)),
  (λ first second. decided_by folding p decide o
      (λ c. hints_refute 0 c.vars c.clauses first) (λ c. hints_refute 1 c.vars c.clauses second)
      (λ c. decided_hints 0 c.vars c.clauses first) (λ c. decided_hints 1 c.vars c.clauses second)),
)

-- ---- items, logs and hints in turn

-- a condition that holds of all items passes
pub each_passes : {A : Type 0} (Good : A → Type 0) (fault : ℕ → Fault) (i : ℕ) (items : List A) → All Good items →
    (each_is Good fault i items).Passes
each_passes Good fault i [] good = tt
each_passes Good fault i (x ∷ xs) good =
    (All-head Good x xs good, each_passes Good fault (suc i) xs (All-tail Good x xs good))

first_fails : {A : Type 0} (Good : A → Type 0) (fault : ℕ → Fault) (n i : ℕ) (items : List A) (item : A) →
    All Good (take i items) → slice_get items i ≡ Some item → ¬ Good item →
    (each_is Good fault n items).Fails (fault (n + i))
first_fails Good fault n i [] item good is bad = cc
first_fails Good fault n zero (x ∷ xs) item good is bad =
    let same : x ≡ item = cc in
    inl ((λ h. bad (subst Good same h)), ap fault (add-zero n))
first_fails Good fault n (suc i) (x ∷ xs) item good is bad =
    let later = first_fails Good fault (suc n) i xs item (All-tail Good x (take i xs) good) is bad in
    let same : suc n + i ≡ n + suc i = omega arith in
    let P : ℕ → Type 0 = λ m. (each_is Good fault (suc n) xs).Fails (fault m) in
    inr (All-head Good x (take i xs) good, subst P same later)

-- a condition on each item passes where all items meet it, and fails with the number of the first that doesn't
pub items_are_tested_in_turn : (A : Type 0) (Good : A → Type 0) (fault : ℕ → Fault) (items : List A) →
    (All Good items → (each_is Good fault 0 items).Passes)
    × ((i : ℕ) (item : A) → All Good (take i items) → slice_get items i ≡ Some item → ¬ Good item →
    (each_is Good fault 0 items).Fails (fault i))
items_are_tested_in_turn A Good fault items = (
  each_passes Good fault 0 items,
  λ i item good is bad.
      let fails = first_fails Good fault 0 i items item good is bad in
      subst (λ (n : ℕ). (each_is Good fault 0 items).Fails (fault n)) (zero-add i) fails,
)

-- a refutation fails with its first fault, or else where it doesn't end with the empty clause
pub logs_are_tested_in_turn : LogsAreTestedInTurn
logs_are_tested_in_turn j clauses derived log = (
  (λ bad e. at_log j clauses log (Err bad) (BadChain j bad.chain bad.fault.step bad.fault.why) e refl),
  (λ e full. at_log j clauses log (Ok derived) (NotEmpty j) e (full, refl)),
)

-- hints tested one after another give the verdict on the whole list
pub hints_are_tested_in_turn : HintsAreTestedInTurn
hints_are_tested_in_turn j vars clauses hints = (
  (λ bad e. at_hints j vars clauses hints (Some bad) (BadHint j bad.hint bad.fault.place bad.fault.why) e refl),
  (λ e full. at_hints j vars clauses hints None (NotEmpty j) e (full, refl)),
)
