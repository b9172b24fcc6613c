-- The load of a problem bounds the gates of its queries.
use Rattle.std.proofs.Common.{◌≡◌, ℕ, ◌+◌, ◌*◌, ◌<◌, ◌≤◌, Bool, List, All, length, refl, ap, arith}
use Rattle.std.proofs.Math.Nat.{mul-le-mul, mul-le-mul_right}
use Rattle.am_gate.specs.Build.{Place, Step, place_of}
use Rattle.am_gate.specs.Circuit.{built, start}
use Rattle.am_gate.proofs.Laws.{place_of-built}
use Rattle.am_bv.specs.declared.term.Term.{Term}
use Rattle.am_slot.specs.Template.{selectors_of, weight_of_block}
use Rattle.am_problem.specs.Examples.{IsNegative, IsPositive, IsTransformer, all_fields}
use Rattle.am_problem.specs.Limits.{IsProblem}
use Rattle.am_problem.specs.Loads.{load_of}
use Rattle.am_problem.specs.Problem.{Problem}
use Rattle.am_problem.specs.declared.examples.Negative.{Negative}
use Rattle.am_problem.specs.declared.examples.Positive.{Positive}
use Rattle.am_problem.proofs.Laws.{derivable_terms_fit}
use Rattle.am_query.specs.Formulas.{encoding_of, precise, query_circuit, sound}
use Rattle.am_query.specs.Queries.{FormulasKeepTheLoad, IsQueryOf, input_count}
use Rattle.am_query.specs.Transformers.{IsTransformerOf}
use Rattle.am_query.specs.declared.query.Query.{Query}
use Rattle.am_query.specs.declared.query.Query.TheVariants.{Fit, Precise, Sound}
use Rattle.am_query.specs.inside.Parts.{comparing, failing}
use Rattle.am_query.specs.inside.Statements.{Any}
use Rattle.am_query.specs.inside.Weights.{example_weight, member_weight, valid_weight}
use Rattle.am_query.proofs.Builds.{Builds, Builds-bind}
use Rattle.am_query.proofs.Fitting.{Builds-fit}
use Rattle.am_query.proofs.Inputs.{Builds-input_word, Builds-input_words}
use Rattle.am_query.proofs.Stating.{Builds-comparing, Builds-failing, comparing_gates, failing_gates}
use Rattle.am_query.proofs.Tuples.{AreWordsIn-later}
use Rattle.am_query.proofs.Sizes.{transformers_weigh}

module _ (p : Problem) (is : IsProblem p) where
  -- what the load has for each turn
  abbrev part : ℕ
  part = weight_of_block (encoding_of p) + 4 * member_weight p + 2 * valid_weight p

  -- the examples of a fit, and a clause for each of them
  pub examples-load : (n : ℕ) → n ≤ p.turns + 1 → n * (example_weight p + 1) ≤ load_of p
  examples-load n few =
      let some : 1 ≤ member_weight p = omega (arith, is.formed.width.0) in
      let each : example_weight p + 1 ≤ part = omega (arith, some) in
      let turns : n ≤ p.turns + 2 = omega (arith, few) in
      omega (arith, mul-le-mul turns each)

  -- ---- what the queries build

  module _ (terms : List Term) (derivable : IsTransformerOf p terms) where
    fit : IsTransformer p terms
    fit = derivable_terms_fit p is.formed terms derivable

    abbrev w : ℕ
    w = p.width

    Builds-sound : (q : Place) → 0 < q.next →
        Builds (sound p terms) (failing_gates p is.formed terms fit) ((all_fields p + p.inputs) * w) Any q
    unfolding sound failing
    Builds-sound q pos =
        let gates = failing_gates p is.formed terms fit in
        Builds-bind _ gates (p.inputs * w) (Builds-input_words w (all_fields p) q) (omega arith) (omega arith)
        (λ fields q1 l1 h. Builds-bind _ gates 0 (Builds-input_words w p.inputs q1) (omega arith) (omega arith)
        (λ words q2 l2 e. Builds-failing p is.formed terms fit q2 fields words (omega (arith, pos, l1, l2))
        (AreWordsIn-later w (all_fields p) q1.next q2.next fields l2 h) e))

    -- the gates of soundness
    failing-load : failing_gates p is.formed terms fit ≤ load_of p
    failing-load =
        let weigh = transformers_weigh p is.formed terms derivable in
        let members : p.inputs * member_weight p ≤ 3 * member_weight p =
        mul-le-mul_right (member_weight p) is.formed.few_inputs in
        let valid : p.inputs * valid_weight p ≤ 3 * valid_weight p =
        mul-le-mul_right (valid_weight p) is.formed.few_inputs in
        let two : 2 ≤ p.turns + 2 = omega arith in
        let turns : 2 * part ≤ (p.turns + 2) * part = mul-le-mul_right part two in
        omega (arith, weigh, members, valid, turns)

    module _ (pos : List Positive) (neg : List Negative) (positives : All (IsPositive p) pos)
        (negatives : All (IsNegative p) neg) where
      abbrev fitted : ℕ
      fitted = (length pos + length neg) * example_weight p

      Builds-precise : (q : Place) → q.next ≡ 1 →
          Builds (precise p terms pos neg) (fitted + comparing_gates p is.formed terms fit)
          (selectors_of (encoding_of p) + (all_fields p + 1) * w) Any q
      unfolding precise comparing
      Builds-precise q first =
          let gates = comparing_gates p is.formed terms fit in
          Builds-bind _ gates ((all_fields p + 1) * w) (Builds-fit p is.formed pos neg positives negatives q first)
          refl refl
          (λ u q1 l1 some. Builds-bind _ gates w (Builds-input_words w (all_fields p) q1) (omega arith) (omega arith)
          (λ fields q2 l2 h. Builds-bind _ gates 0 (Builds-input_word w q2) (omega arith) (omega arith)
          (λ word q3 l3 e. Builds-comparing p is.formed terms fit q3 fields word (omega (arith, some, l2, l3))
          (AreWordsIn-later w (all_fields p) q2.next q3.next fields l3 h) e)))

      -- the gates of precision
      comparing-load : length pos + length neg ≤ p.turns → fitted + comparing_gates p is.formed terms fit ≤ load_of p
      comparing-load few =
          let weigh = transformers_weigh p is.formed terms derivable in
          let valid : p.inputs * valid_weight p ≤ 3 * valid_weight p =
          mul-le-mul_right (valid_weight p) is.formed.few_inputs in
          let each : example_weight p ≤ part = omega arith in
          let turns : fitted ≤ p.turns * part = mul-le-mul few each in
          omega (arith, weigh, valid, turns)

  -- ---- their circuits

  vars-built : {A : Type 0} {m : Step A} {k i : ℕ} {Q : ℕ → A → Type 0} (folding : Bool) →
      Builds m k i Q (place_of (start folding)) → k ≤ load_of p →
      (built (start folding) (m (place_of (start folding))).events).vars ≤ 1 + i + load_of p
  vars-built {m = m} folding b l =
      let there = ap (λ (q : Place). q.next) (place_of-built (start folding) (m (place_of (start folding))).events) in
      omega (arith, there, b.most, l)

  vars-bounded : (folding : Bool) (q : Query) → IsQueryOf p q →
      (query_circuit folding p q).vars ≤ 1 + input_count p q + load_of p
  vars-bounded folding (Fit pos neg) h =
      let each : (length pos + length neg) * example_weight p ≤ (length pos + length neg) * (example_weight p + 1) =
      omega arith in
      vars-built folding (Builds-fit p is.formed pos neg h.positives h.negatives (place_of (start folding)) refl)
      (omega (arith, each, examples-load (length pos + length neg) h.few))
  vars-bounded folding (Sound t) h =
      let first : 0 < 1 = omega arith in
      vars-built folding (Builds-sound t h (place_of (start folding)) first) (failing-load t h)
  vars-bounded folding (Precise t pos neg) h =
      vars-built folding
      (Builds-precise t h.transformer pos neg h.stored.positives h.stored.negatives (place_of (start folding)) refl)
      (comparing-load t h.transformer pos neg h.stored.positives h.stored.negatives h.stored.few)

-- beside the true variable and its inputs, the circuit of a query has at most as many gates as the load
pub formulas_keep_the_load : FormulasKeepTheLoad
formulas_keep_the_load folding p is q h = vars-bounded p is folding q h
