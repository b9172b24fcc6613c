-- The rows of a problem and their inputs, members of inputs, and the stored forms of examples.
use Rattle.std.proofs.Common.{◌≡◌, ℕ, zero, suc, ◌+◌, ◌-◌, ◌*◌, ◌<◌, List, [], ◌∷◌, length, map, take, drop, get_or}
use Rattle.std.proofs.Common.{refl, ap, sym, ◌∙◌, subst, arith}
use Rattle.std.proofs.lemmas.List.{get_or_default}
use Rattle.am_bv.specs.Terms.{val}
use Rattle.am_bv.specs.Words.{AreWords}
use Rattle.am_domain.proofs.Laws.{AreWords-nil, AreWords-cons}
use Rattle.am_domain.specs.Tuple.{IsTuple}
use Rattle.am_domain.specs.Question.{AreInputs, AreMembers, IsMember, Question}
use Rattle.am_problem.proofs.Cutting.{concat-split, get_or-split, IsTuple-concat, IsTuple-part, length-split}
use Rattle.am_problem.proofs.Cutting.{split-concat}
use Rattle.am_problem.specs.ExampleLaws.{InputsAreCut, InputsAreParts, InputsAreTuples, MembersAreWords}
use Rattle.am_problem.specs.ExampleLaws.{ResultsAreValues, RowsAreInputs, RowsAreJoined, TrueExamplesAreStored}
use Rattle.am_problem.specs.ExampleLaws.{TuplesAreCut, ValidExamplesAreStored, WordsAreMembers}
use Rattle.am_problem.specs.Examples.{inputs_of, IsFieldRow}
use Rattle.am_problem.specs.Kinds.{fields_of, meaning_of}
use Rattle.am_problem.specs.Problem.{Problem, question_of}

-- the inputs of a row, put together again, are the row
pub rows_are_joined : RowsAreJoined
rows_are_joined p row is = concat-split (fields_of p.kind) p.inputs row is.counted

-- a row has as many inputs as the operation, and each of them is a tuple
pub inputs_are_tuples : InputsAreTuples
inputs_are_tuples p row is = (
  length-split (fields_of p.kind) p.inputs row,
  λ i d below.
      let place : i < p.inputs = omega (arith, below, length-split (fields_of p.kind) p.inputs row) in
      rw (get_or-split (fields_of p.kind) p.inputs row i d place)
      (IsTuple-part p.width (fields_of p.kind) p.inputs row i is place),
)

-- tuples, one for each input, put together are a row, whose inputs they are
pub tuples_are_cut : TuplesAreCut
tuples_are_cut p inputs counted each = (
  IsTuple-concat p.width (fields_of p.kind) p.inputs inputs counted each,
  split-concat (fields_of p.kind) p.inputs inputs counted (λ i d below. (each i d below).counted),
)

-- the same of abstract values
pub inputs_are_cut : InputsAreCut
inputs_are_cut p inputs are = tuples_are_cut p inputs are.counted (λ i d below. (are.values i d below).tuple)

-- the inputs of a row are abstract values exactly where each of them is valid
pub rows_are_inputs : RowsAreInputs
rows_are_inputs p row is =
    let tuples = inputs_are_tuples p row is in (
      λ are i d below. (are.values i d below).valid,
      λ valid. record {
        counted = tuples.0;
        values = λ i d below. record { tuple = tuples.1 i d below; valid = valid i d below };
      },
    )

-- the input at a place is the part of the row with its fields
pub inputs_are_parts : InputsAreParts
inputs_are_parts p row i below =
    let fields = fields_of p.kind in
    let few : fields ≡ i * fields + fields - i * fields = omega arith in
    get_or-split fields p.inputs row i [] below ∙ ap (λ n. take n (drop (i * fields) row)) few

-- the result of a transformer has the values of its terms at the row
pub results_are_values : ResultsAreValues
results_are_values p terms row is = ap (λ env. map (λ t. val p.width t env) terms) (rows_are_joined p row is)

-- the input at a place is a tuple
pub input-tuple : (p : Problem) (row : List ℕ) (i : ℕ) (a : List ℕ) → IsFieldRow p row → i < p.inputs →
    a ≡ get_or (inputs_of p row) i [] → IsTuple p.width (fields_of p.kind) a
input-tuple p row i a is below e =
    let tuples = inputs_are_tuples p row is in
    rw e (tuples.1 i [] (omega (arith, tuples.0)))

-- inputs of which each is valid are abstract values
pub valid-inputs : (p : Problem) (row : List ℕ) → IsFieldRow p row →
    ((k : ℕ) → k < p.inputs → (meaning_of p.kind).Valid p.width (get_or (inputs_of p row) k [])) →
    AreInputs (question_of p) (inputs_of p row)
valid-inputs p row is each = (rows_are_inputs p row is).1 (λ i d below.
    let place : i < p.inputs = omega (arith, below, (inputs_are_tuples p row is).0) in
    subst ((meaning_of p.kind).Valid p.width) (get_or_default (inputs_of p row) i [] d below) (each i place))

-- members of inputs are as many, and words
members-counted : (q : Question) (inputs : List (List ℕ)) (words : List ℕ) → AreMembers q inputs words →
    length words ≡ length inputs
members-counted q [] [] h = refl
members-counted q [] (c ∷ words) h = absurd h
members-counted q (a ∷ inputs) [] h = absurd h
members-counted q (a ∷ inputs) (c ∷ words) h = ap suc (members-counted q inputs words h.2)

members-words : (q : Question) (inputs : List (List ℕ)) (words : List ℕ) → AreMembers q inputs words →
    AreWords q.width words
members-words q [] [] h = AreWords-nil q.width
members-words q [] (c ∷ words) h = absurd h
members-words q (a ∷ inputs) [] h = absurd h
members-words q (a ∷ inputs) (c ∷ words) h = AreWords-cons q.width c words h.0 (members-words q inputs words h.2)

-- each of them is a member of the input at its place
members-each : (q : Question) (inputs : List (List ℕ)) (words : List ℕ) → AreMembers q inputs words →
    (k : ℕ) → k < length inputs → IsMember q (get_or inputs k []) (get_or words k 0)
members-each q [] words h k below = absurd (omega arith)
members-each q (a ∷ inputs) [] h k below = absurd h
members-each q (a ∷ inputs) (c ∷ words) h zero below = h.1
members-each q (a ∷ inputs) (c ∷ words) h (suc k) below = members-each q inputs words h.2 k (omega arith)

-- words that are members one by one are members
each-members : (q : Question) (inputs : List (List ℕ)) (words : List ℕ) →
    length words ≡ length inputs → AreWords q.width words →
    ((k : ℕ) → k < length inputs → IsMember q (get_or inputs k []) (get_or words k 0)) → AreMembers q inputs words
each-members q [] [] e are each = tt
each-members q [] (c ∷ words) e are each = absurd (omega arith)
each-members q (a ∷ inputs) [] e are each = absurd (omega arith)
each-members q (a ∷ inputs) (c ∷ words) e are each = (
  are 0,
  each 0 (omega arith),
  each-members q inputs words (omega arith) (λ i. are (suc i)) (λ k below. each (suc k) (omega arith)),
)

-- words that are members of inputs are words of the problem
pub members_are_words : MembersAreWords
members_are_words p inputs words counted members = record {
  counted = members-counted (question_of p) inputs words members ∙ counted;
  words = members-words (question_of p) inputs words members;
}

-- the words of a problem are members of inputs exactly where each one is a member of the input at its place
pub words_are_members : WordsAreMembers
words_are_members p inputs words counted are = (
  λ members k below. members-each (question_of p) inputs words members k (omega (arith, counted)),
  λ each. each-members (question_of p) inputs words (are.counted ∙ sym counted) are.words
      (λ k below. each k (omega (arith, counted))),
)

-- each true example has its stored form
pub true_examples_are_stored : TrueExamplesAreStored
true_examples_are_stored p e is =
    let cut = inputs_are_cut p e.inputs is.inputs in
    record {
      rows = record { row = cut.0; words = members_are_words p e.inputs e.words is.inputs.counted is.members };
      same = ap (λ inputs. record { inputs = inputs; words = e.words }) cut.1;
    }

-- each valid negative example has its stored form
pub valid_examples_are_stored : ValidExamplesAreStored
valid_examples_are_stored p e is =
    let cut = inputs_are_cut p e.inputs is.inputs in
    record {
      row = record { row = cut.0; word = is.below };
      same = ap (λ inputs. record { inputs = inputs; word = e.word }) cut.1;
    }
