-- The formula of soundness: what its satisfying truth values show, and which are reached.
use Rattle.std.proofs.Common.{◌≡◌, ℕ, ◌+◌, ◌*◌, ◌<◌, ◌≤◌, Bool, true, List, ◌++◌, map, length, refl, sym, ◌∙◌, ap}
use Rattle.std.proofs.Common.{subst, arith}
use Rattle.std.specs.Prelude.{IsTrue}
use Rattle.std.specs.List.{concat}
use Rattle.am_lit.specs.Truth.{Satisfies}
use Rattle.am_gate.specs.Circuit.{start}
use Rattle.am_gate.specs.Build.{Place, past, place_of, ◌>>=◌, Means}
use Rattle.am_gate.specs.Reaches.{Reaches}
use Rattle.am_gate.proofs.Laws.{Means-bind, Means-weaker, Meets-parts, Reaches-bind, Reaches-gates, Satisfies-built}
use Rattle.am_bv.specs.Terms.{val, fits}
use Rattle.am_bv.specs.declared.term.Term.{Term}
use Rattle.am_blast.specs.Words.{reads, ReadsAs, IsWord}
use Rattle.am_blast.specs.Circuits.{blasted}
use Rattle.am_blast.proofs.Laws.{IsWord-later, Means-blasted, Makes-blasted}
use Rattle.am_domain.specs.Examples.{Covers, IsTrueExample, Positive as Example}
use Rattle.am_domain.specs.Question.{IsMember, results}
use Rattle.am_domain.specs.Tuple.{IsTuple}
use Rattle.am_problem.specs.ExampleLaws.{stored_positive}
use Rattle.am_problem.specs.Examples.{IsPositive, IsTransformer, all_fields, positive_of}
use Rattle.am_problem.specs.Kinds.{fields_of}
use Rattle.am_problem.specs.Limits.{IsFormed}
use Rattle.am_problem.specs.Problem.{Problem, question_of}
use Rattle.am_problem.specs.declared.examples.Positive.{Positive}
use Rattle.am_problem.proofs.Laws.{operations_give_words, results_are_tuples, true_examples_are_stored}
use Rattle.am_query.specs.Transformers.{IsUncovered}
use Rattle.am_query.specs.Formulas.{input_words, member_test, query_circuit, refused, sound}
use Rattle.am_query.specs.QueryLaws.{FailedExamplesAreChosen, FailedExamplesAreReached, UnsatisfiedSoundnessIsSound}
use Rattle.am_query.specs.Witnesses.{chosen_positive, words_from}
use Rattle.am_query.specs.declared.query.Query.TheVariants.{Sound}
use Rattle.am_query.proofs.Deciding.{member_if_not_outside}
use Rattle.am_query.proofs.Builds.{Reaches-weaker}
use Rattle.am_query.proofs.Inputs.{Means-input_words, Reaches-input_words}
use Rattle.am_query.proofs.Literals.{Reaches-own, puts-input_words}
use Rattle.am_query.specs.inside.Parts.{failing}
use Rattle.am_query.specs.inside.Words.{AreWordsIn}
use Rattle.am_query.proofs.Tuples.{AreLong, AreLong-words, AreWordsIn-later, IsTuple-reads, map-same, reads-same}
use Rattle.am_query.proofs.Membership.{some_bit, Means-excluded, Reaches-excluded}
use Rattle.am_query.proofs.Valid.{Means-valid, Reaches-valid}
use Rattle.am_query.proofs.Members.{Means-members, Reaches-members, Means-assumed, Reaches-assumed}
use Rattle.am_query.proofs.Blocks.{Means-outputs, ReadsResults, Reaches-outputs}

module _ (p : Problem) (formed : IsFormed p) (terms : List Term) (is : IsTransformer p terms) where
  abbrev w : ℕ
  w = p.width

  -- the example that words read
  abbrev read_by : (ℕ → Bool) → List (List ℕ) → List (List ℕ) → Positive
  read_by v fields words = record { inputs = map (reads v) fields; words = map (reads v) words }

  -- ---- what satisfying truth values show

  operation-fits : (words : List (List ℕ)) → length words ≡ p.inputs → IsTrue (fits w (length words) p.operation)
  operation-fits words e = rw e formed.operation.fit

  module _ (v : ℕ → Bool) (fields words : List (List ℕ)) (long_fields : AreLong w (all_fields p) fields)
      (long_words : AreLong w p.inputs words) where
    shown : (value : List ℕ) → ReadsAs v w (val w p.operation (map (reads v) words)) value →
        (result : List (List ℕ)) → ReadsResults p formed v terms (map (reads v) fields) result →
        (¬ IsMember (question_of p) (map (reads v) result) (reads v value)) →
        ¬ Covers (question_of p) terms (positive_of p (read_by v fields words))
    shown value r result s none = rw (s.values, r.value) at none

    Means-failing : Means v (failing p terms fields words) (λ u. IsUncovered p terms (read_by v fields words))
    unfolding failing
    Means-failing =
        Means-bind _ (Means-valid p formed v fields long_fields)
        (λ u inputs. Means-bind _ (Means-members p formed v fields words long_fields long_words)
        (λ u members. Means-bind _ (Means-assumed p formed v words long_words p.assume formed.assume)
        (λ u used. Means-bind _
        (Means-blasted w (some_bit p formed) words v long_words.bits p.operation (operation-fits words long_words.many))
        (λ value r. Means-bind _ (Means-outputs p formed terms is fields v long_fields)
        (λ result s. Means-weaker (Means-excluded p formed v result value s.long r.bits)
        (λ u none. record {
          stored = record {
            row = IsTuple-reads v w (all_fields p) fields long_fields;
            words = IsTuple-reads v w p.inputs words long_words;
          };
          true = record { inputs = inputs; members = members; assumed = used };
          fails = shown value r result s none;
        }))))))

  -- where the words of inputs stand
  module _ (folding : Bool) where
    abbrev first : Place
    first = place_of (start folding)

    abbrev fields : List (List ℕ)
    fields = (input_words w (all_fields p) first).value

    abbrev second : Place
    second = past first (input_words w (all_fields p) first).events

    abbrev words : List (List ℕ)
    words = (input_words w p.inputs second).value

    fields-stand : fields ≡ words_from w (all_fields p) 1
    fields-stand = (puts-input_words w (all_fields p) first).value

    words-stand : words ≡ words_from w p.inputs (1 + all_fields p * w)
    words-stand =
        (puts-input_words w p.inputs second).value
        ∙ ap (words_from w p.inputs) (puts-input_words w (all_fields p) first).next

    -- the words that truth values satisfy show a failed example
    example_chosen : (v : ℕ → Bool) → Satisfies v (query_circuit folding p (Sound terms)).clauses →
        IsUncovered p terms (chosen_positive p v)
    unfolding sound failing ◌>>=◌
    example_chosen v h =
        let both = (Satisfies-built v folding (sound p terms first).events).0 h in
        let third = past second (input_words w p.inputs second).events in
        let rest = (failing p terms fields words third).events in
        let one = Meets-parts v first (input_words w (all_fields p) first).events
        ((input_words w p.inputs second).events ++ rest) both.1 in
        let two = Meets-parts v second (input_words w p.inputs second).events rest one.1 in
        let long_fields = (Means-input_words v w (all_fields p)).holds first both.0 one.0 in
        let long_words = (Means-input_words v w p.inputs).holds second both.0 two.0 in
        let shows : IsUncovered p terms (read_by v fields words) =
        (Means-failing v fields words long_fields long_words).holds third both.0 two.1 in
        rw (← fields-stand, ← words-stand) shows

  -- ---- which truth values are reached

  module _ (e : Positive) (true_one : IsTrueExample (question_of p) (positive_of p e))
      (fails : ¬ Covers (question_of p) terms (positive_of p e))
      (fields words : List (List ℕ)) where
    -- the words of inputs read as the example
    record Reads (v : ℕ → Bool) (n : ℕ) : Type 0 where
      some : 0 < n
      truth : IsTrue (v 0)
      inside : AreWordsIn w (all_fields p) n fields
      inside_words : AreWordsIn w p.inputs n words
      row : map (reads v) fields ≡ e.inputs
      given : map (reads v) words ≡ e.words

    later : (u v : ℕ → Bool) (n m : ℕ) → Reads v n → n ≤ m → ((x : ℕ) → x < n → u x ≡ v x) → Reads u m
    later u v n m r l same = record {
      some = omega (arith, r.some, l);
      truth = same 0 r.some ∙ r.truth;
      inside = AreWordsIn-later w (all_fields p) n m fields l r.inside;
      inside_words = AreWordsIn-later w p.inputs n m words l r.inside_words;
      row = map-same u v w n same fields r.inside.each ∙ r.row;
      given = map-same u v w n same words r.inside_words.each ∙ r.given;
    }

    refuted : (v : ℕ → Bool) (q : Place) → Reads v q.next → (value : List ℕ) → IsWord w q.next value →
        reads v value ≡ val w p.operation e.words →
        (result : List (List ℕ)) → AreWordsIn w (fields_of p.kind) q.next result →
        ReadsResults p formed v terms e.inputs result →
        Reaches v (refused (member_test p result value)) q (λ u r a. Unit {0})
    refuted v q r value inside is_value result tuple s =
        Reaches-excluded p formed v q r.some r.truth result value tuple inside
        (λ member. fails (rw (s.values, is_value) at member))

    Reaches-failing : (v : ℕ → Bool) (q : Place) → Reads v q.next →
        Reaches v (failing p terms fields words) q (λ u r a. Unit {0})
    unfolding failing
    Reaches-failing v q r =
        Reaches-bind _ (Reaches-valid p formed v q fields r.some r.truth r.inside (rw r.row true_one.inputs))
        (λ v1 a q1 l1 same1 done. let r1 = later v1 v q.next q1.next r l1 same1 in
        Reaches-bind _
        (Reaches-members p formed v1 q1 fields words r1.some r1.truth r1.inside r1.inside_words
        (rw (r1.row, r1.given) true_one.members))
        (λ v2 a q2 l2 same2 done. let r2 = later v2 v1 q1.next q2.next r1 l2 same2 in
        Reaches-bind _
        (Reaches-assumed p formed v2 q2 words r2.some r2.truth r2.inside_words p.assume formed.assume
        (rw r2.given true_one.assumed))
        (λ v3 a q3 l3 same3 done. let r3 = later v3 v2 q2.next q3.next r2 l3 same3 in
        Reaches-bind _ (reaches_value v3 q3 r3)
        (λ v4 value q4 l4 same4 valued. let r4 = later v4 v3 q3.next q4.next r3 l4 same4 in
        Reaches-bind _ (Reaches-outputs p formed terms is fields v4 q4 r4.some r4.truth r4.inside)
        (λ v5 result q5 l5 same5 results. let r5 = later v5 v4 q4.next q5.next r4 l5 same5 in
        refuted v5 q5 r5 value (IsWord-later w q4.next q5.next value l5 valued.0)
        (reads-same v5 v4 q4.next same5 value valued.0.inside ∙ valued.1)
        result results.0 (rw r4.row at results.1))))))
      where
        reaches_value : (v : ℕ → Bool) (q : Place) → Reads v q.next → Reaches v (blasted w words p.operation) q
            (λ u z value. IsWord w z.next value × (reads u value ≡ val w p.operation e.words))
        reaches_value v q r =
            let fit = operation-fits words r.inside_words.many in
            Reaches-gates r.some r.truth
            (Makes-blasted w (some_bit p formed) words p.operation fit q r.some r.inside_words.each)
            (λ u same. let r' = later u v q.next q.next r (omega arith) same in
            Means-weaker
            (Means-blasted w (some_bit p formed) words u (AreLong-words w p.inputs q.next words r.inside_words).bits
            p.operation fit)
            (λ value read. read.value ∙ ap (val w p.operation) r'.given))

  -- some truth values choose the example, and satisfy the formula
  module _ (folding : Bool) (e : Positive) (rows : IsPositive p e)
      (true_one : IsTrueExample (question_of p) (positive_of p e))
      (fails : ¬ Covers (question_of p) terms (positive_of p e)) where
    reached : Reaches (λ x. true) (sound p terms) (first folding) (λ u r a. chosen_positive p u ≡ e)
    unfolding sound failing
    reached =
        Reaches-bind _
        (Reaches-own
        (Reaches-input_words w (all_fields p) e.inputs rows.row.counted rows.row.words (λ x. true) (first folding)))
        (λ u fields q l same one. Reaches-bind _
        (Reaches-own (Reaches-input_words w p.inputs e.words rows.words.counted rows.words.words u q))
        (λ z words r m more two.
        let read : Reads e true_one fails fields words z r.next = record {
          some = omega (arith, l, m);
          truth = more 0 (omega (arith, l)) ∙ same 0 (omega arith);
          inside = AreWordsIn-later w (all_fields p) q.next r.next fields m one.0.0;
          inside_words = two.0.0;
          row = map-same z u w q.next more fields one.0.0.each ∙ one.0.1;
          given = two.0.1;
        } in
        Reaches-weaker (Reaches-failing e true_one fails fields words z r read)
        (λ v s a n below done.
        let after = later e true_one fails fields words v z r.next s.next read n below in
        let fields_stand : fields ≡ words_from w (all_fields p) 1 = one.1 ∙ fields-stand folding in
        let words_stand : words ≡ words_from w p.inputs (1 + all_fields p * w) =
        two.1 ∙ (puts-input_words w p.inputs q).value
        ∙ ap (words_from w p.inputs)
        (ap (λ (x : Place). x.next) one.2 ∙ (puts-input_words w (all_fields p) (first folding)).next) in
        rw (← fields_stand, ← words_stand, after.row, after.given) refl)))

    example_reached : (v : ℕ → Bool) × Satisfies v (query_circuit folding p (Sound terms)).clauses
        × (chosen_positive p v ≡ e)
    example_reached = (
      reached.values,
      (Satisfies-built reached.values folding (sound p terms (first folding)).events).1
          (reached.below 0 (omega arith), reached.meets),
      reached.given,
    )

-- ---- the laws

-- what satisfies the formula of soundness chooses a true example that the terms fail
pub failed_examples_are_chosen : FailedExamplesAreChosen
failed_examples_are_chosen folding p formed terms is v h = example_chosen p formed terms is folding v h

-- each true example that the terms fail is chosen by truth values that satisfy the formula
pub failed_examples_are_reached : FailedExamplesAreReached
failed_examples_are_reached folding p formed terms is e true_one fails =
    let held = true_examples_are_stored p e true_one in
    let stored_fails = subst (λ (i : Example). ¬ Covers (question_of p) terms i) (sym held.same) fails in
    let found =
    example_reached p formed terms is folding (stored_positive e) held.rows (rw held.same true_one) stored_fails in
    (found.0, found.1, ap (positive_of p) found.2 ∙ held.same)

-- the operation's value at words that are assumed members is a member, where the formula isn't satisfiable
pub unsatisfied_soundness_is_sound : UnsatisfiedSoundnessIsSound
unsatisfied_soundness_is_sound folding p formed terms is unsat inputs are words members used =
    let e : Example = record { inputs = inputs; words = words } in
    let true_one : IsTrueExample (question_of p) e = record { inputs = are; members = members; assumed = used } in
    let held = true_examples_are_stored p e true_one in
    let tuple : IsTuple p.width (fields_of p.kind) (results (question_of p) terms inputs) =
    subst (λ (i : Example). IsTuple p.width (fields_of p.kind) (results (question_of p) terms i.inputs)) held.same
    (results_are_tuples p formed terms (concat inputs) is held.rows.row) in
    member_if_not_outside p formed (results (question_of p) terms inputs) tuple (val p.width p.operation words)
    (operations_give_words p formed words held.rows.words)
    (λ fails.
    let found = failed_examples_are_reached folding p formed terms is e true_one fails in unsat (found.0, found.1))
