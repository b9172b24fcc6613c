-- The formula of precision: what its satisfying truth values show, and which are reached.
use Rattle.std.proofs.Common.{◌≡◌, ℕ, ◌+◌, ◌*◌, ◌<◌, ◌≤◌, Bool, true, List, ◌++◌, map, length, refl, sym, ◌∙◌, ap}
use Rattle.std.proofs.Common.{subst, arith}
use Rattle.std.specs.Prelude.{IsTrue}
use Rattle.am_lit.specs.Truth.{Satisfies}
use Rattle.am_gate.specs.Circuit.{start}
use Rattle.am_gate.specs.Build.{Place, past, place_of, ◌>>=◌, Means}
use Rattle.am_gate.specs.Reaches.{Reaches}
use Rattle.am_gate.proofs.Laws.{Means-bind, Means-weaker, Meets-parts, Reaches-bind, Satisfies-built, place_of-built}
use Rattle.am_bv.specs.declared.term.Term.{Term}
use Rattle.am_blast.specs.Words.{reads, IsWord}
use Rattle.am_blast.proofs.Laws.{IsWord-later}
use Rattle.am_domain.specs.Examples.{Excludes, IsValidExample, Negative as Example}
use Rattle.am_domain.specs.Question.{IsMember, results}
use Rattle.am_slot.specs.Encoding.{Encoding}
use Rattle.am_slot.specs.Template.{decoded, encoded_terms, selectors_of}
use Rattle.am_slot.specs.Theorems.{KeepsTuple}
use Rattle.am_problem.specs.ExampleLaws.{stored_negative}
use Rattle.am_problem.specs.Examples.{IsNegative, all_fields, inputs_of, negative_of}
use Rattle.am_problem.specs.Kinds.{fields_of}
use Rattle.am_problem.specs.Problem.{Problem, question_of}
use Rattle.am_problem.specs.declared.examples.Negative.{Negative}
use Rattle.am_problem.specs.declared.examples.Positive.{Positive}
use Rattle.am_problem.proofs.Laws.{results_are_tuples, valid_examples_are_stored}
use Rattle.am_query.specs.Formulas.{encoding_of, fit, forced, input_word, input_words, member_test, precise}
use Rattle.am_query.specs.Formulas.{query_circuit}
use Rattle.am_query.specs.Formulas.{refused}
use Rattle.am_query.specs.QueryLaws.{CloserOnesAreChosen, CloserOnesAreReached, IsComparison}
use Rattle.am_query.specs.QueryLaws.{UnsatisfiedPrecisionHasNoneCloser}
use Rattle.am_query.specs.Transformers.{IsTransformerOf, SuitsExamples}
use Rattle.am_query.specs.Witnesses.{IsCloser, chosen_negative, chosen_terms, word_from, words_from}
use Rattle.am_query.specs.declared.query.Query.TheVariants.{Fit, Precise}
use Rattle.am_query.proofs.Deciding.{member_if_not_outside}
use Rattle.am_query.proofs.Builds.{Reaches-weaker}
use Rattle.am_query.proofs.Inputs.{Means-input_word, Means-input_words, Reaches-input_word, Reaches-input_words}
use Rattle.am_query.proofs.Literals.{Reaches-own, puts-input_word, puts-input_words}
use Rattle.am_query.specs.inside.Parts.{comparing}
use Rattle.am_query.specs.inside.Words.{AreWordsIn}
use Rattle.am_query.proofs.Tuples.{AreLong, AreWordsIn-later, IsTuple-reads, map-same, reads-same}
use Rattle.am_query.proofs.Membership.{below-reads, Means-admitted, Means-excluded, Reaches-admitted, Reaches-excluded}
use Rattle.am_query.proofs.Valid.{Means-valid, Reaches-valid}
use Rattle.am_query.proofs.Blocks.{Means-block, Means-outputs, ReadsResults, Reaches-block, Reaches-outputs}
use Rattle.am_query.proofs.Blocks.{tuple_derivable}
use Rattle.am_query.proofs.Fitting.{IsChosen, Means-fit, Reaches-fit, keeps-same}

module _ (p : Problem) (terms : List Term) (pos : List Positive) (neg : List Negative)
    (are : IsComparison p terms pos neg) where
  abbrev w : ℕ
  w = p.width

  abbrev e : Encoding
  e = encoding_of p

  -- the example that words read
  abbrev read_by : (ℕ → Bool) → List (List ℕ) → List ℕ → Negative
  read_by v fields word = record { inputs = map (reads v) fields; word = reads v word }

  -- ---- what satisfying truth values show

  module _ (v : ℕ → Bool) (chosen : IsChosen p are.formed pos neg are.positives_stored are.negatives_stored v)
      (fields : List (List ℕ)) (word : List ℕ) (long : AreLong w (all_fields p) fields) (bits : length word ≡ w) where
    member-results : (of : List Term) (tuple : List (List ℕ)) →
        ReadsResults p are.formed v of (map (reads v) fields) tuple →
        IsMember (question_of p) (map (reads v) tuple) (reads v word)
        ≡ IsMember (question_of p) (results (question_of p) of (inputs_of p (map (reads v) fields))) (reads v word)
    member-results of tuple r = ap (λ a. IsMember (question_of p) a (reads v word)) r.values

    Means-comparing : Means v (comparing p terms fields word)
        (λ u. IsCloser p terms pos neg (chosen_terms p v) (read_by v fields word))
    unfolding comparing
    Means-comparing =
        Means-bind _ (Means-valid p are.formed v fields long)
        (λ u inputs. Means-bind _ (Means-block p are.formed v (decoded e v) chosen.serves fields long)
        (λ closer r. Means-bind _ (Means-outputs p are.formed terms are.transformer fields v long)
        (λ result s. Means-bind _ (Means-admitted p are.formed v result word s.long bits)
        (λ u member. Means-weaker (Means-excluded p are.formed v closer word r.long bits)
        (λ u none. record {
          derivable = tuple_derivable p are.formed (decoded e v) chosen.serves.derived;
          suits = chosen.suits;
          excludes = rw (member-results (chosen_terms p v) closer r) at none;
          admitted = record {
            stored = record {
              row = IsTuple-reads v w (all_fields p) fields long;
              word = below-reads p are.formed v word bits;
            };
            valid = record { inputs = inputs; below = below-reads p are.formed v word bits };
            fails = λ excludes. excludes (rw (member-results terms result s) at member);
          };
        })))))

  -- where the words of inputs stand
  module _ (folding : Bool) where
    abbrev first : Place
    first = place_of (start folding)

    abbrev second : Place
    second = past first (fit p pos neg first).events

    abbrev fields : List (List ℕ)
    fields = (input_words w (all_fields p) second).value

    abbrev third : Place
    third = past second (input_words w (all_fields p) second).events

    abbrev word : List ℕ
    word = (input_word w third).value

    -- how many variables the circuit of the fit has
    abbrev behind : ℕ
    behind = (query_circuit folding p (Fit pos neg)).vars

    second-stands : second.next ≡ behind
    second-stands = sym (ap (λ (q : Place). q.next) (place_of-built (start folding) (fit p pos neg first).events))

    fields-stand : fields ≡ words_from w (all_fields p) behind
    fields-stand = (puts-input_words w (all_fields p) second).value ∙ ap (words_from w (all_fields p)) second-stands

    third-stands : third.next ≡ behind + all_fields p * w
    third-stands = (puts-input_words w (all_fields p) second).next ∙ ap (λ n. n + all_fields p * w) second-stands

    word-stands : word ≡ word_from w (behind + all_fields p * w)
    word-stands = (puts-input_word w third).value ∙ ap (word_from w) third-stands

    -- truth values that satisfy the formula choose as those of the fit do
    pub fit_chosen : (v : ℕ → Bool) → Satisfies v (query_circuit folding p (Precise terms pos neg)).clauses →
        IsChosen p are.formed pos neg are.positives_stored are.negatives_stored v
    unfolding precise comparing ◌>>=◌
    fit_chosen v h =
        let both = (Satisfies-built v folding (precise p terms pos neg first).events).0 h in
        let fourth = past third (input_word w third).events in
        let more = (input_word w third).events ++ (comparing p terms fields word fourth).events in
        let one = Meets-parts v first (fit p pos neg first).events
        ((input_words w (all_fields p) second).events ++ more) both.1 in
        (Means-fit p are.formed pos neg are.positives_stored are.negatives_stored v).holds first both.0 one.0

    -- and show a closer transformer
    closer_chosen : (v : ℕ → Bool) → Satisfies v (query_circuit folding p (Precise terms pos neg)).clauses →
        IsCloser p terms pos neg (chosen_terms p v) (chosen_negative p behind v)
    unfolding precise comparing ◌>>=◌
    closer_chosen v h =
        let both = (Satisfies-built v folding (precise p terms pos neg first).events).0 h in
        let fourth = past third (input_word w third).events in
        let rest = (comparing p terms fields word fourth).events in
        let more = (input_word w third).events ++ rest in
        let one = Meets-parts v first (fit p pos neg first).events
        ((input_words w (all_fields p) second).events ++ more) both.1 in
        let two = Meets-parts v second (input_words w (all_fields p) second).events more one.1 in
        let three = Meets-parts v third (input_word w third).events rest two.1 in
        let long = (Means-input_words v w (all_fields p)).holds second both.0 two.0 in
        let bits = (Means-input_word v w).holds third both.0 three.0 in
        let shows : IsCloser p terms pos neg (chosen_terms p v) (read_by v fields word) =
        (Means-comparing v (fit_chosen v h) fields word long bits).holds fourth both.0 three.1 in
        rw (← fields-stand, ← word-stands) shows

  -- ---- which truth values are reached

  module _ (other : List Term) (derivable : IsTransformerOf p other) (suits : SuitsExamples p other pos neg)
      (x : Negative) (stored : IsNegative p x) (valid_one : IsValidExample (question_of p) (negative_of p x))
      (excludes : Excludes (question_of p) other (negative_of p x))
      (member : IsMember (question_of p) (results (question_of p) terms (inputs_of p x.inputs)) x.word) where
    -- the selectors choose the transformer, and the words of inputs read as the example
    record Reads (fields : List (List ℕ)) (word : List ℕ) (v : ℕ → Bool) (n : ℕ) : Type 0 where
      truth : IsTrue (v 0)
      selectors : 1 + selectors_of e ≤ n
      keeps : KeepsTuple e v derivable.trees
      inside : AreWordsIn w (all_fields p) n fields
      inside_word : IsWord w n word
      row : map (reads v) fields ≡ x.inputs
      given : reads v word ≡ x.word

    later : (fields : List (List ℕ)) (word : List ℕ) (u v : ℕ → Bool) (n m : ℕ) → Reads fields word v n → n ≤ m →
        ((y : ℕ) → y < n → u y ≡ v y) →
        Reads fields word u m
    later fields word u v n m r l same = record {
      truth = same 0 (omega (arith, r.selectors)) ∙ r.truth;
      selectors = omega (arith, r.selectors, l);
      keeps = keeps-same e v u derivable.trees (λ y b. same y (omega (arith, b, r.selectors))) r.keeps;
      inside = AreWordsIn-later w (all_fields p) n m fields l r.inside;
      inside_word = IsWord-later w n m word l r.inside_word;
      row = map-same u v w n same fields r.inside.each ∙ r.row;
      given = reads-same u v n same word r.inside_word.inside ∙ r.given;
    }

    module _ (fields : List (List ℕ)) (word : List ℕ) where
      some : (v : ℕ → Bool) (n : ℕ) → Reads fields word v n → 0 < n
      some v n r = omega (arith, r.selectors)

      admitted : (v : ℕ → Bool) (q : Place) → Reads fields word v q.next → (result : List (List ℕ)) →
          AreWordsIn w (fields_of p.kind) q.next result →
          ReadsResults p are.formed v terms x.inputs result →
          Reaches v (forced (member_test p result word)) q (λ u r a. Unit {0})
      admitted v q r result tuple s =
          Reaches-admitted p are.formed v q (some v q.next r) r.truth result word tuple r.inside_word
          (rw (s.values, r.given) member)

      excluded : (v : ℕ → Bool) (q : Place) → Reads fields word v q.next → (closer : List (List ℕ)) →
          AreWordsIn w (fields_of p.kind) q.next closer →
          map (reads v) closer ≡ results (question_of p) other (inputs_of p x.inputs) →
          Reaches v (refused (member_test p closer word)) q (λ u r a. Unit {0})
      excluded v q r closer tuple values =
          Reaches-excluded p are.formed v q (some v q.next r) r.truth closer word tuple r.inside_word
          (λ inside. excludes (rw (values, r.given) at inside))

      Reaches-comparing : (v : ℕ → Bool) (q : Place) → Reads fields word v q.next →
          Reaches v (comparing p terms fields word) q (λ u r a. Unit {0})
      unfolding comparing
      Reaches-comparing v q r =
          Reaches-bind _
          (Reaches-valid p are.formed v q fields (some v q.next r) r.truth r.inside (rw r.row valid_one.inputs))
          (λ v1 a q1 l1 same1 done. let r1 = later fields word v1 v q.next q1.next r l1 same1 in
          Reaches-bind _
          (Reaches-block p are.formed v1 derivable.trees derivable.derive r1.keeps v1 (λ y b. refl) q1 r1.selectors
          fields r1.inside)
          (λ v2 closer q2 l2 same2 close. let r2 = later fields word v2 v1 q1.next q2.next r1 l2 same2 in
          Reaches-bind _
          (Reaches-outputs p are.formed terms are.transformer fields v2 q2 (some v2 q2.next r2) r2.truth r2.inside)
          (λ v3 result q3 l3 same3 own. let r3 = later fields word v3 v2 q2.next q3.next r2 l3 same3 in
          Reaches-bind _ (admitted v3 q3 r3 result own.0 (rw r2.row at own.1))
          (λ v4 a q4 l4 same4 done. let r4 = later fields word v4 v3 q3.next q4.next r3 l4 same4 in
          let at_first =
          subst (λ row. ReadsResults p are.formed v2 (encoded_terms e derivable.trees) row closer) r1.row close.1 in
          let values : map (reads v4) closer ≡ results (question_of p) other (inputs_of p x.inputs) =
          map-same v4 v2 w q2.next (λ y b. same4 y (omega (arith, b, l3)) ∙ same3 y b) closer close.0.each
          ∙ at_first.values ∙ ap (λ ts. results (question_of p) ts (inputs_of p x.inputs)) (sym derivable.give) in
          excluded v4 q4 r4 closer
          (AreWordsIn-later w (fields_of p.kind) q2.next q4.next closer (omega (arith, l3, l4)) close.0) values))))

    -- some truth values choose both, and satisfy the formula
    reached : (folding : Bool) → Reaches (λ y. true) (precise p terms pos neg) (first folding)
        (λ u r a. (chosen_terms p u ≡ other) × (chosen_negative p (behind folding) u ≡ x))
    unfolding precise comparing
    reached folding =
        Reaches-bind _
        (Reaches-own
        (Reaches-fit p are.formed pos neg are.positives_stored are.negatives_stored other derivable suits (λ y. true)
        refl (first folding) refl))
        (λ u a q l same fitted. Reaches-bind _
        (Reaches-own (Reaches-input_words w (all_fields p) x.inputs stored.row.counted stored.row.words u q))
        (λ u1 fields q1 l1 same1 one. Reaches-bind _ (Reaches-own (Reaches-input_word w x.word stored.word u1 q1))
        (λ u2 word q2 l2 same2 two.
        let n = 1 + selectors_of e in
        let least : n ≤ q.next = fitted.0.0 in
        let from_fit : (y : ℕ) → y < q.next → u2 y ≡ u y = λ y b. same2 y (omega (arith, b, l1)) ∙ same1 y b in
        let read : Reads fields word u2 q2.next = record {
          truth = from_fit 0 (omega (arith, least)) ∙ same 0 (omega arith);
          selectors = omega (arith, least, l1, l2);
          keeps = keeps-same e u u2 derivable.trees (λ y b. from_fit y (omega (arith, b, least))) fitted.0.1;
          inside = AreWordsIn-later w (all_fields p) q1.next q2.next fields l2 one.0.0;
          inside_word = two.0.0;
          row = map-same u2 u1 w q1.next same2 fields one.0.0.each ∙ one.0.1;
          given = two.0.1;
        } in
        Reaches-weaker (Reaches-comparing fields word u2 q2 read)
        (λ v s a m below done.
        let after = later fields word v u2 q2.next s.next read m below in
        let here : q.next ≡ behind folding = ap (λ (z : Place). z.next) fitted.2 ∙ second-stands folding in
        let fields_stand : fields ≡ words_from w (all_fields p) (behind folding) =
        one.1 ∙ (puts-input_words w (all_fields p) q).value ∙ ap (words_from w (all_fields p)) here in
        let there : q1.next ≡ behind folding + all_fields p * w =
        ap (λ (z : Place). z.next) one.2 ∙ (puts-input_words w (all_fields p) q).next
        ∙ ap (λ k. k + all_fields p * w) here in
        let word_stands : word ≡ word_from w (behind folding + all_fields p * w) =
        two.1 ∙ (puts-input_word w q1).value ∙ ap (word_from w) there in (
          ap (encoded_terms e) (after.keeps.decodes v (λ y b. refl)) ∙ sym derivable.give,
          rw (← fields_stand, ← word_stands, after.row, after.given) refl,
        )))))

    closer_reached : (folding : Bool) →
        (v : ℕ → Bool) × Satisfies v (query_circuit folding p (Precise terms pos neg)).clauses
        × (chosen_terms p v ≡ other) × (chosen_negative p (behind folding) v ≡ x)
    closer_reached folding =
        let r = reached folding in
        let met = (Satisfies-built r.values folding (precise p terms pos neg (first folding)).events).1
        (r.below 0 (omega arith), r.meets) in
        (r.values, met, r.given.0, r.given.1)

-- ---- the laws

-- what satisfies the formula of precision chooses a closer transformer and an example that shows it
pub closer_ones_are_chosen : CloserOnesAreChosen
closer_ones_are_chosen folding p terms pos neg are v h = closer_chosen p terms pos neg are folding v h

-- each closer transformer and example are chosen by truth values that satisfy the formula
pub closer_ones_are_reached : CloserOnesAreReached
closer_ones_are_reached folding p terms pos neg are other derivable suits given valid_one excludes fails =
    let held = valid_examples_are_stored p given valid_one in
    let x = stored_negative given in
    let stored_valid : IsValidExample (question_of p) (negative_of p x) = rw held.same valid_one in
    let stored_excludes = subst (λ (i : Example). Excludes (question_of p) other i) (sym held.same) excludes in
    let stored_fails = subst (λ (i : Example). ¬ Excludes (question_of p) terms i) (sym held.same) fails in
    let tuple = results_are_tuples p are.formed terms x.inputs are.transformer held.row.row in
    let member = member_if_not_outside p are.formed (results (question_of p) terms (inputs_of p x.inputs)) tuple x.word
    held.row.word stored_fails in
    let found =
    closer_reached p terms pos neg are other derivable suits x held.row stored_valid stored_excludes member folding in
    (found.0, found.1, found.2, ap (negative_of p) found.3 ∙ held.same)

-- where nothing satisfies the formula of precision, no transformer that satisfies the examples is closer
pub unsatisfied_precision_has_none_closer : UnsatisfiedPrecisionHasNoneCloser
unsatisfied_precision_has_none_closer folding p terms pos neg are unsat other derivable suits exceeds =
    let given : Example = record { inputs = exceeds.inputs; word = exceeds.word } in
    let valid_one : IsValidExample (question_of p) given =
    record { inputs = exceeds.are_inputs; below = exceeds.below } in
    let found = closer_ones_are_reached folding p terms pos neg are other derivable suits given valid_one
    exceeds.no_member (λ none. none exceeds.member) in
    unsat (found.0, found.1)
