-- What queries state of the words of their inputs: what it builds, which is no input.
use Rattle.std.proofs.Common.{ℕ, ◌+◌, ◌*◌, ◌<◌, ◌≤◌, List, length, sum_by, refl, arith}
use Rattle.std.specs.Prelude.{IsTrue}
use Rattle.am_gate.specs.Circuit.{Net}
use Rattle.am_gate.specs.Build.{Place}
use Rattle.am_gate.specs.Promises.{GivesStep}
use Rattle.am_gate.proofs.Laws.{GivesStep-bind}
use Rattle.am_blast.specs.Circuits.{blasted}
use Rattle.am_bv.specs.Terms.{fits, weight}
use Rattle.am_bv.specs.declared.term.Term.{Term}
use Rattle.am_blast.specs.Words.{IsWord}
use Rattle.am_blast.proofs.Laws.{IsWord-later, Makes-blasted}
use Rattle.am_slot.specs.Template.{block, selectors_of, weight_of_block}
use Rattle.am_problem.specs.Examples.{IsTransformer, all_fields}
use Rattle.am_problem.specs.Kinds.{fields_of}
use Rattle.am_problem.specs.Limits.{IsFormed}
use Rattle.am_problem.specs.Loads.{assumption_weight}
use Rattle.am_problem.specs.Problem.{Problem}
use Rattle.am_query.specs.Formulas.{assumed, encoding_of, forced, member_test, members, outputs, refused, valid}
use Rattle.am_query.specs.inside.Parts.{comparing, comparing_weight, failing, failing_weight}
use Rattle.am_query.specs.inside.Statements.{Any, States}
use Rattle.am_query.specs.inside.Weights.{member_weight, valid_weight}
use Rattle.am_query.specs.inside.Words.{AreWordsIn}
use Rattle.am_query.proofs.Builds.{Builds, Builds-bind, Builds-gates}
use Rattle.am_query.proofs.Tuples.{AreWordsIn-later}
use Rattle.am_query.proofs.Membership.{some_bit, Builds-admitted, Builds-excluded}
use Rattle.am_query.proofs.Valid.{Builds-valid}
use Rattle.am_query.proofs.Members.{Builds-assumed, Builds-members}
use Rattle.am_query.proofs.Blocks.{Makes-block, Makes-outputs}

module _ (p : Problem) (formed : IsFormed p) (terms : List Term) (is : IsTransformer p terms) where
  abbrev w : ℕ
  w = p.width

  -- how many gates there are, at most
  abbrev pub failing_gates : ℕ
  failing_gates =
      p.inputs * valid_weight p + (p.inputs * member_weight p
      + (assumption_weight p.width p.assume
      + (weight p.width p.operation + (sum_by (weight p.width) terms + member_weight p))))

  -- the most gates and clauses that are stated for precision after the fit
  abbrev pub comparing_gates : ℕ
  comparing_gates =
      p.inputs * valid_weight p
      + (weight_of_block (encoding_of p) + (sum_by (weight p.width) terms + (member_weight p + member_weight p)))

  -- what is stated for soundness builds no more than its weight, and no input
  pub Builds-failing : (q : Place) (fields words : List (List ℕ)) → 0 < q.next →
      AreWordsIn p.width (all_fields p) q.next fields → AreWordsIn p.width p.inputs q.next words →
      Builds (failing p terms fields words) failing_gates 0 Any q
  unfolding failing
  Builds-failing q fields words some h e =
      let fit : IsTrue (fits w (length words) p.operation) = rw e.many formed.operation.fit in
      Builds-bind _ _ 0 (Builds-valid p formed q fields some h) refl refl
      (λ a q1 l1 any.
      let h1 = AreWordsIn-later w (all_fields p) q.next q1.next fields l1 h in
      let e1 = AreWordsIn-later w p.inputs q.next q1.next words l1 e in
      Builds-bind _ _ 0 (Builds-members p formed q1 fields words (omega (arith, some, l1)) h1 e1) refl refl
      (λ a q2 l2 any.
      let h2 = AreWordsIn-later w (all_fields p) q1.next q2.next fields l2 h1 in
      let e2 = AreWordsIn-later w p.inputs q1.next q2.next words l2 e1 in
      Builds-bind _ _ 0 (Builds-assumed p formed q2 words (omega (arith, some, l1, l2)) e2 p.assume formed.assume)
      refl refl
      (λ a q3 l3 any.
      let h3 = AreWordsIn-later w (all_fields p) q2.next q3.next fields l3 h2 in
      let e3 = AreWordsIn-later w p.inputs q2.next q3.next words l3 e2 in
      let some3 : 0 < q3.next = omega (arith, some, l1, l2, l3) in
      Builds-bind _ _ 0 (Builds-gates (Makes-blasted w (some_bit p formed) words p.operation fit q3 some3 e3.each))
      refl refl
      (λ value q4 l4 own.
      let h4 = AreWordsIn-later w (all_fields p) q3.next q4.next fields l4 h3 in
      Builds-bind _ _ 0 (Builds-gates (Makes-outputs p formed terms is fields q4 (omega (arith, some3, l4)) h4))
      refl refl
      (λ result q5 l5 tuple.
      Builds-excluded p formed q5 result value (omega (arith, some3, l4, l5)) tuple
      (IsWord-later w q4.next q5.next value l5 own))))))

  -- what is stated for precision after the fit builds no more than its weight, and no input
  pub Builds-comparing : (q : Place) (fields : List (List ℕ)) (word : List ℕ) →
      1 + selectors_of (encoding_of p) ≤ q.next →
      AreWordsIn p.width (all_fields p) q.next fields → IsWord p.width q.next word →
      Builds (comparing p terms fields word) comparing_gates 0 Any q
  unfolding comparing
  Builds-comparing q fields word least h e =
      let k = fields_of p.kind in
      Builds-bind _ _ 0 (Builds-valid p formed q fields (omega (arith, least)) h) refl refl
      (λ a q1 l1 any.
      let h1 = AreWordsIn-later w (all_fields p) q.next q1.next fields l1 h in
      Builds-bind _ _ 0 (Builds-gates (Makes-block p formed q1 (omega (arith, least, l1)) fields h1)) refl refl
      (λ closer q2 l2 close.
      let h2 = AreWordsIn-later w (all_fields p) q1.next q2.next fields l2 h1 in
      Builds-bind _ _ 0 (Builds-gates (Makes-outputs p formed terms is fields q2 (omega (arith, least, l1, l2)) h2))
      refl refl
      (λ result q3 l3 own.
      let e3 = IsWord-later w q.next q3.next word (omega (arith, l1, l2, l3)) e in
      Builds-bind _ _ 0 (Builds-admitted p formed q3 result word (omega (arith, least, l1, l2, l3)) own e3) refl refl
      (λ a q4 l4 any.
      Builds-excluded p formed q4 closer word (omega (arith, least, l1, l2, l3, l4))
      (AreWordsIn-later w k q2.next q4.next closer (omega (arith, l3, l4)) close)
      (IsWord-later w q3.next q4.next word l4 e3)))))

-- ---- what calls give

module _ (p : Problem) (terms : List Term) (fields : List (List ℕ)) where
  -- one call after another, for soundness
  pub Gives-failing : {n0 n1 n2 n3 n4 n5 n6 : Net} {value : List ℕ} {result : List (List ℕ)}
      {Q : ℕ → List (List ℕ) → Type 0} (words : List (List ℕ)) →
      States (valid p fields) (p.inputs * (valid_weight p + 1)) n0 tt n1 →
      States (members p fields words) (p.inputs * (member_weight p + 1)) n1 tt n2 →
      States (assumed p words p.assume) (assumption_weight p.width p.assume + 1) n2 tt n3 →
      GivesStep (blasted p.width words p.operation) (weight p.width p.operation) (IsWord p.width) n3 value n4 →
      GivesStep (outputs p terms fields) (sum_by (weight p.width) terms) Q n4 result n5 →
      States (refused (member_test p result value)) (member_weight p + 1) n5 tt n6 →
      States (failing p terms fields words) (failing_weight p terms) n0 tt n6
  unfolding failing
  Gives-failing words one two three four five six =
      let e = sum_by (weight p.width) terms + (member_weight p + 1) in
      let d = weight p.width p.operation + e in
      let c = (assumption_weight p.width p.assume + 1) + d in
      let b = p.inputs * (member_weight p + 1) + c in
      GivesStep-bind {k = b} _ one
      (GivesStep-bind {k = c} {n = b} _ two
      (GivesStep-bind {k = d} {n = c} _ three
      (GivesStep-bind {k = e} {n = d} _ four
      (GivesStep-bind {k = member_weight p + 1} {n = e} _ five six (omega arith)) (omega arith)) (omega arith))
      (omega arith)) (omega arith)

  -- and for precision
  pub Gives-comparing : {n0 n1 n2 n3 n4 n5 : Net} {closer result : List (List ℕ)} {P Q : ℕ → List (List ℕ) → Type 0}
      (word : List ℕ) →
      States (valid p fields) (p.inputs * (valid_weight p + 1)) n0 tt n1 →
      GivesStep (block (encoding_of p) fields) (weight_of_block (encoding_of p)) P n1 closer n2 →
      GivesStep (outputs p terms fields) (sum_by (weight p.width) terms) Q n2 result n3 →
      States (forced (member_test p result word)) (member_weight p + 1) n3 tt n4 →
      States (refused (member_test p closer word)) (member_weight p + 1) n4 tt n5 →
      States (comparing p terms fields word) (comparing_weight p terms) n0 tt n5
  unfolding comparing
  Gives-comparing word one two three four five =
      let d = (member_weight p + 1) + (member_weight p + 1) in
      let c = sum_by (weight p.width) terms + d in
      let b = weight_of_block (encoding_of p) + c in
      GivesStep-bind {k = b} _ one
      (GivesStep-bind {k = c} {n = b} _ two
      (GivesStep-bind {k = d} {n = c} _ three
      (GivesStep-bind {k = member_weight p + 1} {n = d} _ four five (omega arith)) (omega arith)) (omega arith))
      (omega arith)
