-- Rows of values as inputs, and their cases.
use Rattle.std.proofs.Common.{◌≡◌, ℕ, suc, ◌^◌, ◌<◌, ◌↔◌, List, [], ◌∷◌, length, map, replicate, inl, inr, refl, sym}
use Rattle.std.proofs.Common.{ap, ◌∙◌, subst}
use Rattle.std.specs.Prelude.{All, Contains}
use Rattle.std.specs.List.{AllZip, Any}
use Rattle.std.proofs.Math.Pow.{pow_pos}
use Rattle.std.proofs.lemmas.Bool.{cases_lt}
use Rattle.std.proofs.lemmas.List.{get_or_default, get_or_past, length-map}
use Rattle.std.proofs.lemmas.List.Elements.{All-cons, All-contains, All-contains_itself, All-head, All-map, All-nil}
use Rattle.std.proofs.lemmas.List.Elements.{All-tail, All-weaker}
use Rattle.am_bv.specs.Words.{AreWords}
use Rattle.am_bv.specs.Terms.{val}
use Rattle.am_domain.specs.Meaning.{IsAbstract}
use Rattle.am_domain.specs.Question.{AreMembers}
use Rattle.am_domain.specs.Tuple.{IsTuple}
use Rattle.am_problem.specs.Kinds.{meaning_of}
use Rattle.am_problem.specs.Problem.{Problem, question_of}
use Rattle.am_tree.specs.Listed.{choices}
use Rattle.am_all.specs.declared.cases.Case.{Case}
use Rattle.am_all.specs.declared.cases.Outcome.{Outcome}
use Rattle.am_all.specs.declared.values.Value.{Value}
use Rattle.am_all.specs.inside.Cases.{AreCases, AreIn, AreOutcomes, AreOutcomesAt, IsCaseBy, IsCaseOf, IsOutcome}
use Rattle.am_all.specs.inside.Values.{AreAllValues, IsAbstractValue}
use Rattle.am_all.proofs.Lists.{any-all, any-cases, any-contains, any-here, any-none, any-there, any-weaker}
use Rattle.am_all.proofs.PickLaws.{any-map, choices-are, zip-replicate}

-- words in a row
pub each-word : (w : ℕ) (words : List ℕ) → All (λ c. c < 2 ^ w) words → AreWords w words
each-word w words h i = elim (cases_lt i (length words)) [
  | inl l ↦ h i 0 l
  | inr past ↦ rw (get_or_past words i 0 past) (pow_pos w)
]

word-each : (w : ℕ) (words : List ℕ) → AreWords w words → All (λ c. c < 2 ^ w) words
word-each w words h = λ i d l. subst (λ c. c < 2 ^ w) (get_or_default words i 0 d l) (h i)

-- the choices from a list of all words are the tuples of words
pub tuples-are : (w n : ℕ) (words : List ℕ) → ((c : ℕ) → Contains words c ↔ (c < 2 ^ w)) → (tuple : List ℕ) →
    Contains (choices (replicate n words)) tuple ↔ IsTuple w n tuple
tuples-are w n words has tuple = (
  λ h.
      let is = (zip-replicate Contains n words tuple).0 ((choices-are (replicate n words) tuple).0 h) in
      record {
        counted = is.0;
        words =
            each-word w tuple (All-weaker (Contains words) (λ c. c < 2 ^ w) (λ c. (has c).0) tuple is.1);
      },
  λ is. (choices-are (replicate n words) tuple).1 ((zip-replicate Contains n words tuple).1
      (is.counted, All-weaker (λ c. c < 2 ^ w) (Contains words) (λ c. (has c).1) tuple (word-each w tuple is.words))),
)

-- all choices from a list of all words are tuples
pub all-tuples : (w n : ℕ) (words : List ℕ) → ((c : ℕ) → Contains words c ↔ (c < 2 ^ w)) →
    All (IsTuple w n) (choices (replicate n words))
all-tuples w n words has =
    All-weaker (Contains (choices (replicate n words))) (IsTuple w n) (λ tuple. (tuples-are w n words has tuple).0)
    (choices (replicate n words)) (All-contains_itself (choices (replicate n words)))

-- the outcomes at all tuples are all outcomes
pub all-outcomes : (p : Problem) (words : List ℕ) (outcomes : List Outcome) →
    ((c : ℕ) → Contains words c ↔ (c < 2 ^ p.width)) →
    AreOutcomesAt p (choices (replicate p.inputs words)) outcomes → AreOutcomes p outcomes
all-outcomes p words outcomes has found = record {
  each = found.each;
  all = λ tuple is assumed. found.all tuple ((tuples-are p.width p.inputs words has tuple).1 is) assumed;
}

-- words that are members of inputs, as sets tell it

in-members : (p : Problem) (vs : List Value) (words : List ℕ) → All (IsAbstractValue p) vs → AreIn vs words ↔
    AreMembers (question_of p) (map (λ v. v.fields) vs) words
in-members p [] [] are = (λ h. tt, λ h. tt)
in-members p [] (c ∷ words) are = (λ h. absurd h, λ h. absurd h)
in-members p (v ∷ vs) [] are = (λ h. absurd h, λ h. absurd h)
in-members p (v ∷ vs) (c ∷ words) are =
    let first = (All-head (IsAbstractValue p) v vs are).members c in
    let rest = in-members p vs words (All-tail (IsAbstractValue p) v vs are) in (
      λ h. ((first.0 h.0).0, (first.0 h.0).1, rest.0 h.1),
      λ h. (first.1 (h.0, h.1), rest.1 h.2),
    )

members-each : (p : Problem) (inputs : List (List ℕ)) (words : List ℕ) → AreMembers (question_of p) inputs words →
    (length words ≡ length inputs) × All (λ c. c < 2 ^ p.width) words
members-each p [] [] h = (refl, All-nil (λ c. c < 2 ^ p.width))
members-each p [] (c ∷ words) h = absurd h
members-each p (a ∷ inputs) [] h = absurd h
members-each p (a ∷ inputs) (c ∷ words) h =
    let rest = members-each p inputs words h.2 in
    (ap suc rest.0, All-cons (λ c. c < 2 ^ p.width) c words h.0 rest.1)

-- the words of members of inputs
pub members-tuple : (p : Problem) (inputs : List (List ℕ)) (words : List ℕ) → length inputs ≡ p.inputs →
    AreMembers (question_of p) inputs words → IsTuple p.width p.inputs words
members-tuple p inputs words e h =
    let is = members-each p inputs words h in
    record { counted = is.0 ∙ e; words = each-word p.width words is.1 }

-- the case of a row of values is that of the inputs
case-of : (p : Problem) (outcomes : List Outcome) (vs : List Value) (case : Case) → AreOutcomes p outcomes →
    length vs ≡ p.inputs → All (IsAbstractValue p) vs →
    IsCaseBy outcomes vs case → IsCaseOf p (map (λ v. v.fields) vs) case
case-of p outcomes vs case are e values by =
    let inputs = map (λ (v : Value). v.fields) vs in
    let count : length inputs ≡ p.inputs = length-map vs (λ (v : Value). v.fields) ∙ e in
    record {
      valid = record {
        counted = count;
        values =
            All-map (IsAbstract (meaning_of p.kind) p.width) (λ (v : Value). v.fields) vs
            (All-weaker (IsAbstractValue p) (λ v. IsAbstract (meaning_of p.kind) p.width v.fields)
            (λ v is. is.value) vs values);
      };
      fields = by.fields;
      images = λ c. (
        λ has.
            let found = any-all (IsOutcome p) (λ o. AreIn vs o.words × (c ≡ o.image)) outcomes are.each
            ((by.images c).0 has) in
            let o = found.1 in
            record {
              words = o.words;
              members = (in-members p vs o.words values).0 found.4.1.0;
              assumed = found.4.0.assumed;
              value = found.4.1.1 ∙ found.4.0.image;
            },
        λ image.
            let tuple = members-tuple p inputs image.words count image.members in
            let found = any-all (IsOutcome p) (λ o. o.words ≡ image.words) outcomes are.each
            (are.all image.words tuple image.assumed) in
            (by.images c).1 (any-weaker (λ o. IsOutcome p o × (o.words ≡ image.words))
            (λ o. AreIn vs o.words × (c ≡ o.image))
            (λ o is. (
              subst (AreIn vs) (sym is.1) ((in-members p vs image.words values).1 image.members),
              image.value ∙ ap (val p.width p.operation) (sym is.1) ∙ sym is.0.image,
            )) outcomes found),
      );
    }

-- inputs are rows of values
record AreOf (p : Problem) (values : List Value) (inputs : List (List ℕ)) : Type 0 where
  pub row : List Value
  pub fields : map (λ v. v.fields) row ≡ inputs
  pub all : All (Contains values) row

inputs-row : (p : Problem) (values : List Value) → AreAllValues p values → (inputs : List (List ℕ)) →
    All (IsAbstract (meaning_of p.kind) p.width) inputs → AreOf p values inputs
inputs-row p values are [] h = record { row = []; fields = refl; all = All-nil (Contains values) }
inputs-row p values are (a ∷ inputs) h =
    let rest = inputs-row p values are inputs (All-tail (IsAbstract (meaning_of p.kind) p.width) a inputs h) in
    let found = (any-map (λ b. b ≡ a) (λ (v : Value). v.fields) values).0
    ((any-contains (map (λ (v : Value). v.fields) values) a).0
    (are.all a (All-head (IsAbstract (meaning_of p.kind) p.width) a inputs h))) in
    record {
      row = found.1 ∷ rest.row;
      fields = ap (λ b. b ∷ map (λ (v : Value). v.fields) rest.row) found.4 ∙ ap (λ bs. a ∷ bs) rest.fields;
      all = All-cons (Contains values) found.1 rest.row (found.0, found.2, found.3) rest.all;
    }

-- item by item

zip-all : {A B : Type 0} (R : A → B → Type 0) (P : A → Type 0) (Q : B → Type 0) →
    ((x : A) (y : B) → P x → R x y → Q y) → (xs : List A) (ys : List B) → All P xs → AllZip R xs ys → All Q ys
zip-all R P Q f [] [] all h = All-nil Q
zip-all R P Q f [] (y ∷ ys) all h = absurd h
zip-all R P Q f (x ∷ xs) [] all h = absurd h
zip-all R P Q f (x ∷ xs) (y ∷ ys) all h =
    All-cons Q y ys (f x y (All-head P x xs all) h.0) (zip-all R P Q f xs ys (All-tail P x xs all) h.1)

zip-any : {A B : Type 0} (R : A → B → Type 0) (P : A → Type 0) (Q : B → Type 0) →
    ((x : A) (y : B) → P x → R x y → Q y) → (xs : List A) (ys : List B) → Any P xs → AllZip R xs ys → Any Q ys
zip-any R P Q f [] ys any h = absurd (any-none P any)
zip-any R P Q f (x ∷ xs) [] any h = absurd h
zip-any R P Q f (x ∷ xs) (y ∷ ys) any h = elim (any-cases P x xs any) [
  | inl p ↦ any-here Q y ys (f x y p h.0)
  | inr rest ↦ any-there Q y ys (zip-any R P Q f xs ys rest h.1)
]

-- a row of values of the list
row-of : (p : Problem) (values vs : List Value) → AreAllValues p values →
    Contains (choices (replicate p.inputs values)) vs → (length vs ≡ p.inputs) × All (IsAbstractValue p) vs
row-of p values vs are h =
    let is = (zip-replicate Contains p.inputs values vs).0 ((choices-are (replicate p.inputs values) vs).0 h) in (
      is.0,
      All-weaker (Contains values) (IsAbstractValue p) (λ v. All-contains (IsAbstractValue p) values v are.each) vs
          is.1,
    )

-- the cases of all rows of values are the cases of all inputs
pub all-cases : (p : Problem) (values : List Value) (outcomes : List Outcome) (cases : List Case) →
    AreAllValues p values → AreOutcomes p outcomes →
    AllZip (IsCaseBy outcomes) (choices (replicate p.inputs values)) cases → AreCases p cases
all-cases p values outcomes cases are os zip =
    let rows = choices (replicate p.inputs values) in
    record {
      each = zip-all (IsCaseBy outcomes) (Contains rows) (λ case. (inputs : List (List ℕ)) × IsCaseOf p inputs case)
          (λ vs case h by. let is = row-of p values vs are h in
          (map (λ (v : Value). v.fields) vs, case-of p outcomes vs case os is.0 is.1 by))
          rows cases (All-contains_itself rows) zip;
      all = λ inputs valid.
          let of = inputs-row p values are inputs valid.values in
          let long : length of.row ≡ p.inputs =
          sym (length-map of.row (λ (v : Value). v.fields)) ∙ ap length of.fields ∙ valid.counted in
          let stands = (choices-are (replicate p.inputs values) of.row).1
          ((zip-replicate Contains p.inputs values of.row).1 (long, of.all)) in
          let is = row-of p values of.row are stands in
          zip-any (IsCaseBy outcomes) (λ vs. vs ≡ of.row) (IsCaseOf p inputs)
          (λ vs case e by. subst (λ ins. IsCaseOf p ins case) of.fields
          (case-of p outcomes of.row case os is.0 is.1 (subst (λ us. IsCaseBy outcomes us case) e by)))
          rows cases ((any-contains rows of.row).0 stands) zip;
    }
