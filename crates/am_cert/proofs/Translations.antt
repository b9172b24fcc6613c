-- Certificates whose chains were translated to hints.
use Rattle.std.proofs.Common.{◌≡◌, ℕ, ◌+◌, ◌^◌, ◌<◌, ◌≤◌, Bool, true, false, List, [], ◌∷◌, ◌++◌, length, refl, sym}
use Rattle.std.proofs.Common.{subst, ◌∙◌, ◌&&◌, arith, inl, inr, leb, ltb}
use Rattle.std.specs.Prelude.{All, None, Some, Option}
use Rattle.std.proofs.lemmas.Bool.{and_parts, cases_Bool, leb-true, ltb-true}
use Rattle.std.proofs.lemmas.List.Elements.{All-cons, All-nil}
use Rattle.am_bv.specs.declared.term.Term.{Term}
use Rattle.am_chain.specs.Replay.{Refutes}
use Rattle.am_chain.specs.declared.chain.Chain.{Chain}
use Rattle.am_hint.specs.HintReplay.{HintsFault, HintsRefute, hints_fault}
use Rattle.am_hint.specs.Hints.{hint_fault, is_normal, match_option, variables_increase}
use Rattle.am_hint.specs.declared.fault.HintFault.{HintFault}
use Rattle.am_hint.specs.declared.hint.Hint.{Hint}
use Rattle.am_lit.specs.Literal.{variable_of}
use Rattle.am_lit.specs.declared.formula.Formula.{Formula}
use Rattle.am_problem.specs.Problem.{Problem}
use Rattle.am_query.proofs.Laws.{derivable}
use Rattle.am_query.specs.Acceptance.{acceptance}
use Rattle.am_query.specs.Formulas.{query_circuit}
use Rattle.am_query.specs.Transformers.{IsTransformerOf}
use Rattle.am_query.specs.Turns.{after_trace}
use Rattle.am_query.specs.declared.outcome.Outcome.{Outcome}
use Rattle.am_query.specs.declared.outcome.Outcome.TheVariants.{Absent, Best, Conflicts, Turns}
use Rattle.am_query.specs.declared.query.Query.TheVariants.{Fit, Precise, Sound}
use Rattle.am_query.specs.declared.turn.Turn.{Turn}
use Rattle.am_cert.specs.Certificate.{AreBounded, AreHints, AreHintsOf, AreProofsOf, Certificate, IsBounded}
use Rattle.am_cert.specs.Certificate.{IsCertificate}
use Rattle.am_cert.specs.Checking.{IsAcceptable, acceptance_with}
use Rattle.am_problem.specs.Texts.{named}
use Rattle.am_cert.specs.Grammar.{ProblemShape, best, log, none, outcome, shape_of, spent_conflicts, spent_turns}
use Rattle.am_cert.specs.Translating.{IsTranslation, without_logs}
use Rattle.am_cert.specs.Versions.{folds, has_hints, with_hints}
use Rattle.am_cert.specs.declared.answer.Proofs.{Proofs}
use Rattle.am_cert.specs.declared.answer.Proofs.TheVariants.{Chains, Hinted}
use Rattle.am_cert.specs.declared.version.Version.{Version}
use Rattle.am_cert.specs.declared.version.Version.TheVariants.{Four, One, Three, Two}
use Rattle.am_cert.specs.inside.Translations.{AreProofsFor, HaveSmallNumbers}
use Rattle.am_cert.specs.inside.Verdicts.{AreStoredAfter, IsFormulaOf}
use Rattle.am_cert.proofs.FittedOutcomes.{CanBeWritten, absent_stored, best_stored}

-- ---- versions

-- the form of the formulas stays
pub folds_alike : (v : Version) → folds (with_hints v) ≡ folds v
folds_alike One = refl
folds_alike Two = refl
folds_alike Three = refl
folds_alike Four = refl

pub hinted_version : (v : Version) → has_hints (with_hints v) ≡ true
hinted_version One = refl
hinted_version Two = refl
hinted_version Three = refl
hinted_version Four = refl

-- a version without hints has chains
chains_alone : (v : Version) (o : Outcome) (proofs : Proofs) → has_hints v ≡ false → AreProofsOf v o proofs →
    proofs ≡ Chains
chains_alone v o Chains none are = refl
chains_alone v o (Hinted first second) none are = absurd (let e : true ≡ false = sym are.0 ∙ none in cc)

-- an accepted certificate with chains is accepted by its logs
pub accepted_by_logs : (c : Certificate) → has_hints c.version ≡ false → AreProofsOf c.version c.outcome c.proofs →
    IsAcceptable c → (acceptance (folds c.version) c.problem c.outcome).Passes
accepted_by_logs c none are accepted =
    subst (λ (proofs : Proofs). (acceptance_with (folds c.version) c.problem c.outcome proofs).Passes)
    (chains_alone c.version c.outcome c.proofs none are) accepted

-- ---- what an accepted certificate with chains has

-- a best transformer: it is derivable, its examples are rows of the problem, and bounded logs refute
pub record HasBest (c : Certificate) (t : List Term) (trace : List Turn) (sound_log best_log : List Chain) : Type
    0 where
  pub accepted : (acceptance (folds c.version) c.problem (Best t trace sound_log best_log)).Passes
  pub transformer : IsTransformerOf c.problem t
  pub stored : AreStoredAfter c.problem trace
  pub sound : Refutes (query_circuit (folds c.version) c.problem (Sound t)).clauses sound_log
  pub closest : let s = after_trace trace in
      Refutes (query_circuit (folds c.version) c.problem (Precise t s.positives s.negatives)).clauses best_log
  pub bounded : IsBounded sound_log × IsBounded best_log

-- what an accepted certificate of a best transformer has
pub has_best : (c : Certificate) → IsCertificate c → has_hints c.version ≡ false → IsAcceptable c →
    (t : List Term) (trace : List Turn) (sound_log best_log : List Chain) →
    c.outcome ≡ Best t trace sound_log best_log →
    HasBest c t trace sound_log best_log
has_best c is none accepted t trace sound_log best_log same =
    let passes : (acceptance (folds c.version) c.problem (Best t trace sound_log best_log)).Passes =
    subst (λ (o : Outcome). (acceptance (folds c.version) c.problem o).Passes) same
    (accepted_by_logs c none is.proofs accepted) in
    record {
      accepted = passes;
      transformer = derivable c.problem t passes.0;
      stored = best_stored c.problem is.problem t trace sound_log best_log
          (subst (CanBeWritten c.problem is.problem) same is.outcome);
      sound = passes.1.1.1.0;
      closest = passes.1.1.1.1;
      bounded = subst AreBounded same is.bounded;
    }

-- that no transformer is sound: its examples are rows of the problem, and a bounded log refutes
pub record HasNone (c : Certificate) (trace : List Turn) (log : List Chain) : Type 0 where
  pub accepted : (acceptance (folds c.version) c.problem (Absent trace log)).Passes
  pub stored : AreStoredAfter c.problem trace
  pub refutes : Refutes (query_circuit (folds c.version) c.problem (Fit (after_trace trace).positives [])).clauses log
  pub bounded : IsBounded log

-- what an accepted certificate has where none is sound
pub has_none : (c : Certificate) → IsCertificate c → has_hints c.version ≡ false → IsAcceptable c →
    (trace : List Turn) (log : List Chain) → c.outcome ≡ Absent trace log → HasNone c trace log
has_none c is none accepted trace log same =
    let passes : (acceptance (folds c.version) c.problem (Absent trace log)).Passes =
    subst (λ (o : Outcome). (acceptance (folds c.version) c.problem o).Passes) same
    (accepted_by_logs c none is.proofs accepted) in
    record {
      accepted = passes;
      stored = absent_stored c.problem is.problem trace log
          (subst (CanBeWritten c.problem is.problem) same is.outcome);
      refutes = passes.1;
      bounded = subst AreBounded same is.bounded;
    }

-- ---- outcomes without logs

-- hints in place of logs don't look at those
logs_alike : (folding : Bool) (p : Problem) (o : Outcome) (first second : List Hint) →
    (acceptance_with folding p o (Hinted first second)).Passes →
    (acceptance_with folding p (without_logs o) (Hinted first second)).Passes
logs_alike folding p (Best t trace sound_log best_log) first second passes = passes
logs_alike folding p (Absent trace log) first second passes = passes
logs_alike folding p (Turns trace) first second passes = passes
logs_alike folding p (Conflicts trace asked log) first second passes = passes

-- an outcome without logs can be written where the outcome can
pub good_without_logs : (s : ProblemShape) (o : Outcome) → (outcome s).Good o → (outcome s).Good (without_logs o)
unfolding outcome best none spent_turns spent_conflicts log
good_without_logs s (Best t trace sound_log best_log) good = (good.0, (good.1.0, (tt, tt)))
good_without_logs s (Absent trace log) good = (good.0, tt)
good_without_logs s (Turns trace) good = good
good_without_logs s (Conflicts trace asked log) good = (good.0, (good.1.0, tt))

no_log : IsBounded []
no_log = record { chains = omega arith; steps = All-nil (λ (c : Chain). length c.steps < 2 ^ 30) }

bounded_without_logs : (o : Outcome) → AreBounded (without_logs o)
bounded_without_logs (Best t trace sound_log best_log) = (no_log, no_log)
bounded_without_logs (Absent trace log) = no_log
bounded_without_logs (Turns trace) = tt
bounded_without_logs (Conflicts trace asked log) = no_log

-- ---- hints that pass

-- a clause whose variables increase is no longer than they are
increasing_length : (least vars : ℕ) (c : List ℕ) → least ≤ vars → variables_increase least vars c ≡ true →
    least + length c ≤ vars
increasing_length least vars [] few h = omega (arith, few)
increasing_length least vars (l ∷ ls) few h =
    let v = variable_of l in
    let first = and_parts (leb least v) (ltb v vars && variables_increase (v + 1) vars ls) h in
    let second = and_parts (ltb v vars) (variables_increase (v + 1) vars ls) first.1 in
    let up : least ≤ v = leb-true least v first.0 in
    let below : v < vars = ltb-true v vars second.0 in
    let rest = increasing_length (v + 1) vars ls (omega (arith, below)) second.1 in
    omega (arith, up, rest)

-- a hint that passes has a normal clause
normal_test : (vars : ℕ) (clauses : List (List ℕ)) (hint : Hint) → hint_fault vars clauses hint ≡ None →
    is_normal vars hint.clause ≡ true
normal_test vars clauses hint passes = elim (cases_Bool (is_normal vars hint.clause)) [
  | inl normal ↦ normal
  | inr other ↦
      absurd (let e : ◌≡◌ {A = Option HintFault} (Some _) None = rw other at passes in cc)
]

first_of : (fault : Option HintFault) (rest : Option HintsFault) (number : ℕ) →
    match_option fault rest (λ f. Some (record { hint = number; fault = f })) ≡ None →
    (fault ≡ None) × (rest ≡ None)
first_of None rest number e = (refl, e)
first_of (Some f) rest number e = absurd (let bad : ◌≡◌ {A = Option HintsFault} (Some _) None = e in cc)

-- all hints that pass have short clauses
short_clauses : (vars number : ℕ) (clauses : List (List ℕ)) (hints : List Hint) →
    hints_fault vars clauses number hints ≡ None → All (λ h. length h.clause ≤ vars) hints
short_clauses vars number clauses [] pass = All-nil (λ (h : Hint). length h.clause ≤ vars)
short_clauses vars number clauses (h ∷ hints) pass =
    let parts = first_of (hint_fault vars clauses h) (hints_fault vars (clauses ++ h.clause ∷ []) (number + 1) hints)
    number pass in
    let short = increasing_length 0 vars h.clause (omega arith) (normal_test vars clauses h parts.0) in
    All-cons (λ (h : Hint). length h.clause ≤ vars) h hints (omega (arith, short))
    (short_clauses vars (number + 1) (clauses ++ h.clause ∷ []) hints parts.1)

-- hints that refute over few variables, no more than chains of a log, with few places
pub hints_fit : (vars : ℕ) (clauses : List (List ℕ)) (hints : List Hint) → vars < 2 ^ 30 →
    HintsRefute vars clauses hints → length hints < 2 ^ 30 → All (λ h. length h.by ≤ 2 ^ 30) hints →
    HaveSmallNumbers hints → AreHints hints
hints_fit vars clauses hints few_vars refute few places small = record {
  few = few;
  each = λ k d within.
      let short = short_clauses vars 0 clauses hints refute.0 k d within in
      let long = places k d within in
      let numbers = small k d within in
      record {
        codes = record { few = omega (arith, short, few_vars); small = numbers.codes };
        places = record { few = omega (arith, long); small = numbers.places };
      };
}

-- ---- the proofs of a translation

module _ (c : Certificate) (first second : List Hint) where
  -- hints for a best transformer
  pub best_shown : (t : List Term) (trace : List Turn) (sound_log best_log : List Chain) (unsound closer : Formula) →
      c.outcome ≡ Best t trace sound_log best_log →
      (acceptance (folds c.version) c.problem (Best t trace sound_log best_log)).Passes →
      IsFormulaOf c (Sound t) unsound →
      (let s = after_trace trace in IsFormulaOf c (Precise t s.positives s.negatives) closer) →
      HintsRefute unsound.vars unsound.clauses first → HintsRefute closer.vars closer.clauses second →
      AreHints first → AreHints second → AreProofsFor c (Hinted first second)
  best_shown t trace sound_log best_log unsound closer is passes one two refute refuted few short =
      let best = Best t trace sound_log best_log in
      let passed : (acceptance_with (folds c.version) c.problem best (Hinted first second)).Passes = (
        passes.0,
        (passes.1.0, (passes.1.1.0, (rw (one.vars, one.clauses) at refute, rw (two.vars, two.clauses) at refuted))),
      ) in
      record {
        accepted =
            subst (λ (o : Outcome). (acceptance_with (folds c.version) c.problem o (Hinted first second)).Passes)
            (sym is) passed;
        fit =
            subst (λ (o : Outcome). AreProofsOf (with_hints c.version) (without_logs o) (Hinted first second)) (sym is)
            (hinted_version c.version, (few, short));
      }

-- hints where no transformer is sound
pub absent_shown : (c : Certificate) (first : List Hint) (trace : List Turn) (log : List Chain) (fit : Formula) →
    c.outcome ≡ Absent trace log → (acceptance (folds c.version) c.problem (Absent trace log)).Passes →
    IsFormulaOf c (Fit (after_trace trace).positives []) fit → HintsRefute fit.vars fit.clauses first →
    AreHints first → AreProofsFor c (Hinted first [])
absent_shown c first trace log fit is passes one refute few =
    let passed : (acceptance_with (folds c.version) c.problem (Absent trace log) (Hinted first [])).Passes =
    (passes.0, rw (one.vars, one.clauses) at refute) in
    record {
      accepted =
          subst (λ (o : Outcome). (acceptance_with (folds c.version) c.problem o (Hinted first [])).Passes) (sym is)
          passed;
      fit =
          subst (λ (o : Outcome). AreProofsOf (with_hints c.version) (without_logs o) (Hinted first [])) (sym is)
          (hinted_version c.version, few);
    }

-- a certificate with hints for its outcome is accepted without the logs
translated_by : (c : Certificate) (proofs : Proofs) → AreProofsFor c proofs →
    (acceptance_with (folds (with_hints c.version)) c.problem (without_logs c.outcome) proofs).Passes
translated_by c Chains are = absurd (let e : true ≡ false = sym (hinted_version c.version) ∙ are.fit in cc)
translated_by c (Hinted first second) are =
    subst (λ folding. (acceptance_with folding c.problem (without_logs c.outcome) (Hinted first second)).Passes)
    (sym (folds_alike c.version))
    (logs_alike (folds c.version) c.problem c.outcome first second are.accepted)

pub translated_accepted : (c : Certificate) (proofs : Proofs) → AreProofsFor c proofs →
    IsAcceptable (record {
      version = with_hints c.version;
      problem = c.problem;
      outcome = without_logs c.outcome;
      proofs = proofs;
    })
translated_accepted c proofs are = translated_by c proofs are

-- what a translation has is a certificate
pub translated_certificate : (c : Certificate) (proofs : Proofs) → IsCertificate c → AreProofsFor c proofs →
    IsCertificate (record {
      version = with_hints c.version;
      problem = c.problem;
      outcome = without_logs c.outcome;
      proofs = proofs;
    })
translated_certificate c proofs is are = record {
  problem = is.problem;
  outcome = good_without_logs (shape_of (named c.problem)) c.outcome is.outcome;
  bounded = bounded_without_logs c.outcome;
  proofs = are.fit;
}

-- it is the certificate's translation
pub translation : (c : Certificate) (proofs : Proofs) → has_hints c.version ≡ false → AreProofsFor c proofs →
    IsTranslation c (record {
      version = with_hints c.version;
      problem = c.problem;
      outcome = without_logs c.outcome;
      proofs = proofs;
    })
translation c proofs none are = record {
  version = refl;
  problem = refl;
  outcome = refl;
  accepted = translated_accepted c proofs are;
  own = λ hints. absurd (let e : true ≡ false = sym hints ∙ none in cc);
}

-- ---- a certificate with hints is its own translation

own_version : (v : Version) → has_hints v ≡ true → v ≡ with_hints v
own_version One hints = cc
own_version Two hints = cc
own_version Three hints = refl
own_version Four hints = refl

no_logs : (o : Outcome) (first second : List Hint) → AreHintsOf o first second → o ≡ without_logs o
no_logs (Best t trace [] []) first second are = refl
no_logs (Best t trace [] (c ∷ best_log)) first second are = absurd are
no_logs (Best t trace (c ∷ sound_log) best_log) first second are = absurd are
no_logs (Absent trace []) first second are = refl
no_logs (Absent trace (c ∷ log)) first second are = absurd are
no_logs (Turns trace) first second are = absurd are
no_logs (Conflicts trace asked log) first second are = absurd are

own_outcome : (v : Version) (o : Outcome) (proofs : Proofs) → has_hints v ≡ true → AreProofsOf v o proofs →
    o ≡ without_logs o
own_outcome v o Chains hints are = absurd (let e : true ≡ false = sym hints ∙ are in cc)
own_outcome v o (Hinted first second) hints are = no_logs o first second are.1

pub own_translation : (c : Certificate) → IsCertificate c → has_hints c.version ≡ true → IsAcceptable c →
    IsTranslation c c
own_translation c is hints accepted = record {
  version = own_version c.version hints;
  problem = refl;
  outcome = own_outcome c.version c.outcome c.proofs hints is.proofs;
  accepted = accepted;
  own = λ _. refl;
}
