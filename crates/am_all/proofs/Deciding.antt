-- What the numbers of results at all cases say of terms.
use Rattle.std.proofs.Common.{◌≡◌, ℕ, ◌*◌, ◌^◌, ◌<◌, ◌≤◌, List, [], length, map, refl, sym, ap, ◌∙◌, subst, arith}
use Rattle.std.specs.Prelude.{All, IsTrue, slice_index, slice_index_or}
use Rattle.std.specs.List.{concat}
use Rattle.std.proofs.lemmas.List.{get_or-map, length-map}
use Rattle.std.proofs.lemmas.List.Elements.{All-map, All-weaker}
use Rattle.am_bv.specs.Terms.{fits, val}
use Rattle.am_bv.specs.declared.term.Term.{Term}
use Rattle.am_bv.proofs.Laws.{val-word}
use Rattle.am_domain.specs.Question.{Exceeds, IsSound, IsWithin, results}
use Rattle.am_domain.specs.Tuple.{IsTuple}
use Rattle.am_problem.specs.Kinds.{fields_of}
use Rattle.am_problem.specs.Limits.{IsProblem}
use Rattle.am_problem.specs.Problem.{Problem, question_of}
use Rattle.am_all.specs.declared.cases.Case.{Case}
use Rattle.am_all.specs.declared.word_set.WordSet.{WordSet}
use Rattle.am_all.specs.inside.Cases.{IsCaseOf}
use Rattle.am_all.specs.inside.Leaders.{AreFacts, IsResult, numbers_of}
use Rattle.am_all.specs.inside.Numbers.{tuple_number, words_at}
use Rattle.am_all.specs.inside.Results.{IsBeyond, IsCovering, IsMissing, IsResultInside, set_at}
use Rattle.am_all.specs.inside.Values.{IsMemberSet}
use Rattle.am_all.proofs.FitLaws.{inputs-tuple}
use Rattle.am_all.proofs.InputLaws.{each-word, members-tuple}
use Rattle.am_all.proofs.NumberLaws.{number_of-below, words_at-number_of}

-- terms of a result: one for each field, over the fields of all inputs
pub record AreTerms (p : Problem) (terms : List Term) : Type 0 where
  pub counted : length terms ≡ fields_of p.kind
  pub fit : All (λ t. IsTrue (fits p.width (p.inputs * fields_of p.kind) t)) terms

module _ (p : Problem) (sets : List WordSet) (cases : List Case) (limits : IsProblem p)
    (facts : AreFacts p sets cases) where
  some_bits : 1 ≤ p.width
  some_bits = omega (arith, limits.formed.width)

  -- the values of terms at a tuple of fields are a tuple of words
  values-tuple : (terms : List Term) → AreTerms p terms → (row : List ℕ) →
      IsTuple p.width (p.inputs * fields_of p.kind) row →
      IsTuple p.width (fields_of p.kind) (map (λ t. val p.width t row) terms)
  values-tuple terms are row is = record {
    counted = length-map terms (λ t. val p.width t row) ∙ are.counted;
    words = each-word p.width (map (λ t. val p.width t row) terms)
        (All-map (λ c. c < 2 ^ p.width) (λ t. val p.width t row) terms
        (All-weaker (λ t. IsTrue (fits p.width (p.inputs * fields_of p.kind) t)) (λ t. val p.width t row < 2 ^ p.width)
        (λ t fit. val-word p.width some_bits row is.words t
        (subst (λ n. IsTrue (fits p.width n t)) (sym is.counted) fit)) terms are.fit));
  }

  -- the number of a tuple has the tuple's members
  number-set : (words : List ℕ) → IsTuple p.width (fields_of p.kind) words →
      (tuple_number p.width words < length sets) × IsMemberSet p words (set_at sets (tuple_number p.width words))
  number-set words is =
      let n = tuple_number p.width words in
      let power : 2 ^ (p.width * length words) ≡ 2 ^ (p.width * fields_of p.kind) =
      ap (λ k. 2 ^ (p.width * k)) is.counted in
      let below : n < length sets = omega
      (arith, number_of-below p.width words is.words, power, facts.all_members.counted) in
      let same : words_at p.width (fields_of p.kind) n ≡ words =
      ap (λ k. words_at p.width k n) (sym is.counted) ∙ words_at-number_of p.width words is.words in (
        below,
        subst (λ a. IsMemberSet p a (set_at sets n)) same
            (facts.all_members.each n (record { parts = [] }) below),
      )

  -- the number at a case
  number-at : (terms : List Term) (i : ℕ) (d : Case) → i < length cases →
      slice_index (numbers_of p cases terms) i ≡ tuple_number p.width
      (map (λ t. val p.width t (slice_index_or cases i d).fields) terms)
  number-at terms i d l = get_or-map
      (λ (case : Case). tuple_number p.width (map (λ t. val p.width t case.fields) terms)) cases i d 0 l

  -- the set of the result at the case of inputs has its members
  result-set : (terms : List Term) → AreTerms p terms → (i : ℕ) (d : Case) → i < length cases →
      (inputs : List (List ℕ)) → IsCaseOf p inputs (slice_index_or cases i d) →
      IsMemberSet p (results (question_of p) terms inputs) (set_at sets (slice_index (numbers_of p cases terms) i))
  result-set terms are i d l inputs of =
      let tuple = values-tuple terms are (concat inputs) (inputs-tuple p inputs of.valid) in
      let same : slice_index (numbers_of p cases terms) i ≡ tuple_number p.width
      (results (question_of p) terms inputs) =
      number-at terms i d l ∙ ap (λ row. tuple_number p.width (map (λ t. val p.width t row) terms)) of.fields in
      subst (λ n. IsMemberSet p (results (question_of p) terms inputs) (set_at sets n)) (sym same)
      (number-set (results (question_of p) terms inputs) tuple).1

  -- the numbers have sets
  pub numbers-result : (terms : List Term) → AreTerms p terms →
      IsResult (length cases) (length sets) (numbers_of p cases terms)
  numbers-result terms are = record {
    counted = length-map cases (λ (case : Case). tuple_number p.width (map (λ t. val p.width t case.fields) terms));
    inside = All-map (λ n. n < length sets)
        (λ (case : Case). tuple_number p.width (map (λ t. val p.width t case.fields) terms)) cases
        (All-weaker (λ case. (inputs : List (List ℕ)) × IsCaseOf p inputs case)
        (λ case. tuple_number p.width (map (λ t. val p.width t case.fields) terms) < length sets)
        (λ case of. (number-set (map (λ t. val p.width t case.fields) terms)
        (values-tuple terms are case.fields
        (subst (IsTuple p.width (p.inputs * fields_of p.kind)) (sym of.1.fields) (inputs-tuple p of.0 of.1.valid)))).0)
        cases facts.all_cases.each);
  }

  -- the operation's values are words
  operation-word : (words : List ℕ) → IsTuple p.width p.inputs words → val p.width p.operation words < 2 ^ p.width
  operation-word words is =
      val-word p.width some_bits words is.words p.operation
      (subst (λ n. IsTrue (fits p.width n p.operation)) (sym is.counted) limits.formed.operation.fit)

  -- a sound transformer's results have all images
  pub sound-covering : (terms : List Term) → AreTerms p terms → IsSound (question_of p) terms →
      IsCovering cases sets (numbers_of p cases terms)
  sound-covering terms are sound i d l c has =
      let of = facts.all_cases.each i d l in
      let image = (of.1.images c).0 has in
      let tuple = members-tuple p of.0 image.words of.1.valid.counted image.members in
      let member = sound of.0 of.1.valid image.words image.members image.assumed in
      (result-set terms are i d l of.0 of.1 c).1 (rw image.value (operation-word image.words tuple, member))

  -- and one whose results have them is sound
  pub covering-sound : (terms : List Term) → AreTerms p terms → IsCovering cases sets (numbers_of p cases terms) →
      IsSound (question_of p) terms
  covering-sound terms are covering inputs valid words members assumed =
      let found = facts.all_cases.all inputs valid in
      let i = found.0 in
      let case = found.1 in
      let l : i < length cases = found.2 in
      let of : IsCaseOf p inputs (slice_index_or cases i case) = subst (IsCaseOf p inputs) (sym found.3) found.4 in
      let c = val p.width p.operation words in
      let here = (of.images c).1 (record { words = words; members = members; assumed = assumed; value = refl }) in
      ((result-set terms are i case l inputs of c).0 (covering i case l c here)).1

  -- one whose results lack an image isn't sound
  pub missing-unsound : (terms : List Term) → AreTerms p terms → IsMissing cases sets (numbers_of p cases terms) →
      ¬ IsSound (question_of p) terms
  missing-unsound terms are missing sound =
      let more = missing.2 (record { fields = []; images = record { parts = [] } }) in
      more.missing (sound-covering terms are sound missing.0
      (record { fields = []; images = record { parts = [] } }) missing.1 more.word more.here)

  -- what is within another transformer, by the numbers

  -- a transformer within another has results inside its results
  pub within-inside : (inner outer : List Term) → AreTerms p inner → AreTerms p outer →
      IsWithin (question_of p) inner outer →
      IsResultInside sets (numbers_of p cases inner) (numbers_of p cases outer)
  within-inside inner outer are are' within i l c has =
      let d : Case = record { fields = []; images = record { parts = [] } } in
      let below : i < length cases =
      omega (
        arith,
        l,
        length-map cases
            (λ (case : Case). tuple_number p.width (map (λ t. val p.width t case.fields) inner)),
      ) in
      let of = facts.all_cases.each i d below in
      let member = (result-set inner are i d below of.0 of.1 c).0 has in
      (result-set outer are' i d below of.0 of.1 c).1 (member.0, within of.0 of.1.valid c member.0 member.1)

  -- and the other way round
  pub inside-within : (inner outer : List Term) → AreTerms p inner → AreTerms p outer →
      IsResultInside sets (numbers_of p cases inner) (numbers_of p cases outer) →
      IsWithin (question_of p) inner outer
  inside-within inner outer are are' inside inputs valid c below member =
      let found = facts.all_cases.all inputs valid in
      let i = found.0 in
      let case = found.1 in
      let l : i < length cases = found.2 in
      let of : IsCaseOf p inputs (slice_index_or cases i case) = subst (IsCaseOf p inputs) (sym found.3) found.4 in
      let many : i < length (numbers_of p cases inner) = simp length-map l in
      ((result-set outer are' i case l inputs of c).0
      (inside i many c ((result-set inner are i case l inputs of c).1 (below, member)))).1

  -- one whose result has a word more exceeds the other
  pub beyond-exceeds : (outer inner : List Term) → AreTerms p outer → AreTerms p inner →
      IsBeyond sets (numbers_of p cases outer) (numbers_of p cases inner) →
      Exceeds (question_of p) outer inner
  beyond-exceeds outer inner are are' beyond =
      let d : Case = record { fields = []; images = record { parts = [] } } in
      let i = beyond.0 in
      let below : i < length cases =
      omega (
        arith,
        beyond.1,
        length-map cases
            (λ (case : Case). tuple_number p.width (map (λ t. val p.width t case.fields) outer)),
      ) in
      let of = facts.all_cases.each i d below in
      let c = beyond.2.word in
      let member = (result-set outer are i d below of.0 of.1 c).0 beyond.2.here in
      record {
        inputs = of.0;
        are_inputs = of.1.valid;
        word = c;
        below = member.0;
        member = member.1;
        no_member = λ other. beyond.2.missing ((result-set inner are' i d below of.0 of.1 c).1 (member.0, other));
      }
