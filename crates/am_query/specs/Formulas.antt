-- The formulas of the three queries, as circuits: what each states, one thing after another.
use Rattle.std.specs.Prelude.{ℕ, Bool, List, [], ◌∷◌, ◌++◌, map, replicate, zip}
use Rattle.std.specs.declared.option.Option.{Option}
use Rattle.std.specs.declared.option.Option.TheVariants.{None, Some}
use Rattle.am_bv.specs.Terms.{val}
use Rattle.am_bv.specs.declared.term.Term.{Term}
use Rattle.am_lit.specs.Literal.{opposite_of}
use Rattle.am_gate.specs.Circuit.{Event.Input, Net, start, built}
use Rattle.am_gate.specs.Build.{Step, ◌>>=◌, answer, ask, tell, place_of}
use Rattle.am_blast.specs.Words.{constant}
use Rattle.am_blast.specs.Circuits.{blasted, in_turn}
use Rattle.am_blast.specs.Comparisons.{nonzero}
use Rattle.am_slot.specs.Encoding.{Encoding}
use Rattle.am_slot.specs.Template.{block, template}
use Rattle.am_problem.specs.Examples.{all_fields, split}
use Rattle.am_problem.specs.Kinds.{fields_of, member_term_of, valid_term_of}
use Rattle.am_problem.specs.Problem.{Problem}
use Rattle.am_problem.specs.declared.examples.Negative.{Negative}
use Rattle.am_problem.specs.declared.examples.Positive.{Positive}
use Rattle.am_query.specs.declared.query.Query.{Query}
use Rattle.am_query.specs.declared.query.Query.TheVariants.{Fit, Precise, Sound}

-- ---- what may be stated in any circuit

-- one statement after another
unfoldable pub each : {A : Type 0} → (A → Step (Unit {0})) → List A → Step (Unit {0})
each state [] = answer tt
each state (x ∷ xs) = do
  u ← state x
  each state xs

-- a test holds
unfoldable pub forced : Step ℕ → Step (Unit {0})
forced test = do
  l ← test
  tell (l ∷ [])

-- a test doesn't hold
unfoldable pub refused : Step ℕ → Step (Unit {0})
refused test = do
  l ← test
  tell (opposite_of l ∷ [])

-- whether a term's value at some words isn't 0
unfoldable pub test : ℕ → Term → List (List ℕ) → Step ℕ
test w t words = do
  value ← blasted w words t
  nonzero value

-- a word of so many inputs
unfoldable pub input_word : ℕ → Step (List ℕ)
input_word w = in_turn (replicate w (ask Input))

-- so many words of inputs
unfoldable pub input_words : ℕ → ℕ → Step (List (List ℕ))
input_words w count = in_turn (replicate count (input_word w))

-- ---- what is stated of a problem

-- the grammar of a problem, over words of its width
abbrev pub encoding_of : Problem → Encoding
encoding_of p = record { rules = p.rules; starts = p.starts; depth = p.depth; width = p.width }

-- words as rows of constant literals
abbrev pub constants : Problem → List ℕ → List (List ℕ)
constants p words = map (constant p.width) words

-- the words of a transformer's terms where the fields of all inputs are these
abbrev pub outputs : Problem → List Term → List (List ℕ) → Step (List (List ℕ))
outputs p terms fields = in_turn (map (blasted p.width fields) terms)

-- whether a word is a member of a tuple
abbrev pub member_test : Problem → List (List ℕ) → List ℕ → Step ℕ
member_test p tuple word = test p.width (member_term_of p.kind p.width) (tuple ++ word ∷ [])

-- whether a tuple is an abstract value
abbrev pub valid_test : Problem → List (List ℕ) → Step ℕ
valid_test p tuple = test p.width (valid_term_of p.kind p.width) tuple

-- the fields of each input are an abstract value
abbrev pub valid : Problem → List (List ℕ) → Step (Unit {0})
valid p fields = each (λ tuple. forced (valid_test p tuple)) (split (fields_of p.kind) p.inputs fields)

-- each word is a member of the input at its place
abbrev pub members : Problem → List (List ℕ) → List (List ℕ) → Step (Unit {0})
members p fields words =
    each (λ (tuple, word). forced (member_test p tuple word)) (zip (split (fields_of p.kind) p.inputs fields) words)

-- the operation is used at the words
abbrev pub assumed : Problem → List (List ℕ) → Option Term → Step (Unit {0})
assumed p words None = answer tt
assumed p words (Some t) = forced (test p.width t words)

-- the chosen transformer's result at the example's inputs has the operation's value at its words
unfoldable pub covered : Problem → Positive → Step (Unit {0})
covered p e = do
  result ← block (encoding_of p) (constants p e.inputs)
  forced (member_test p result (constant p.width (val p.width p.operation e.words)))

-- the chosen transformer's result at the example's inputs doesn't have its word
unfoldable pub uncovered : Problem → Negative → Step (Unit {0})
uncovered p e = do
  result ← block (encoding_of p) (constants p e.inputs)
  refused (member_test p result (constant p.width e.word))

-- ---- the three queries

-- some transformer of the grammar covers the positive examples, and excludes the negative ones
unfoldable pub fit : Problem → List Positive → List Negative → Step (Unit {0})
fit p positives negatives = do
  u ← template (encoding_of p)
  u ← each (covered p) positives
  each (uncovered p) negatives

-- at some inputs and some members of theirs that meet the assumption, a transformer's result doesn't have the
-- operation's value
unfoldable pub sound : Problem → List Term → Step (Unit {0})
sound p terms = do
  fields ← input_words p.width (all_fields p)
  words ← input_words p.width p.inputs
  u ← valid p fields
  u ← members p fields words
  u ← assumed p words p.assume
  value ← blasted p.width words p.operation
  result ← outputs p terms fields
  refused (member_test p result value)

-- some transformer of the grammar satisfies the examples, and at some inputs excludes a word that this one admits
unfoldable pub precise : Problem → List Term → List Positive → List Negative → Step (Unit {0})
precise p terms positives negatives = do
  u ← fit p positives negatives
  fields ← input_words p.width (all_fields p)
  word ← input_word p.width
  u ← valid p fields
  closer ← block (encoding_of p) fields
  result ← outputs p terms fields
  u ← forced (member_test p result word)
  refused (member_test p closer word)

-- what a query states
abbrev pub stated : Problem → Query → Step (Unit {0})
stated p (Fit positives negatives) = fit p positives negatives
stated p (Sound t) = sound p t
stated p (Precise t positives negatives) = precise p t positives negatives

-- ---- their formulas

-- the circuit of a query: one that folds, or one that doesn't
abbrev pub query_circuit : Bool → Problem → Query → Net
query_circuit folding p q = built (start folding) (stated p q (place_of (start folding))).events
