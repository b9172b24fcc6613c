-- What queries state of the words of their inputs, and how many gates and clauses that is, at most.
use Rattle.std.specs.Prelude.{ℕ, ◌+◌, ◌*◌, List, sum_by}
use Rattle.am_bv.specs.Terms.{weight}
use Rattle.am_bv.specs.declared.term.Term.{Term}
use Rattle.am_gate.specs.Build.{Step, ◌>>=◌}
use Rattle.am_blast.specs.Circuits.{blasted}
use Rattle.am_slot.specs.Template.{block, weight_of_block}
use Rattle.am_problem.specs.Examples.{all_fields}
use Rattle.am_problem.specs.Loads.{assumption_weight}
use Rattle.am_problem.specs.Problem.{Problem}
use Rattle.am_query.specs.Formulas.{assumed, encoding_of, forced, input_word, input_words, member_test, members}
use Rattle.am_query.specs.Formulas.{outputs, refused, valid}
use Rattle.am_query.specs.inside.Weights.{member_weight, valid_weight}

-- the inputs of the fields are valid, the words are members of them and meet the assumption, and the terms don't cover
-- the operation there
unfoldable pub failing : Problem → List Term → List (List ℕ) → List (List ℕ) → Step (Unit {0})
failing p terms fields words = do
  u ← valid p fields
  u ← members p fields words
  u ← assumed p words p.assume
  value ← blasted p.width words p.operation
  result ← outputs p terms fields
  refused (member_test p result value)

-- the most gates and clauses that are stated for soundness
abbrev pub failing_weight : Problem → List Term → ℕ
failing_weight p terms =
    p.inputs * (valid_weight p + 1) + p.inputs * (member_weight p + 1) + (assumption_weight p.width p.assume + 1)
    + weight p.width p.operation + sum_by (weight p.width) terms + (member_weight p + 1)

-- the inputs of the fields are valid, the chosen transformer excludes the word there, and the terms admit it
unfoldable pub comparing : Problem → List Term → List (List ℕ) → List ℕ → Step (Unit {0})
comparing p terms fields word = do
  u ← valid p fields
  closer ← block (encoding_of p) fields
  result ← outputs p terms fields
  u ← forced (member_test p result word)
  refused (member_test p closer word)

-- the most gates and clauses that are stated for precision after the fit
abbrev pub comparing_weight : Problem → List Term → ℕ
comparing_weight p terms =
    p.inputs * (valid_weight p + 1) + weight_of_block (encoding_of p) + sum_by (weight p.width) terms
    + (member_weight p + 1) + (member_weight p + 1)

-- after a fit, words of inputs at which the chosen transformer is closer than the terms
unfoldable pub sought : Problem → List Term → Step (Unit {0})
sought p terms = do
  fields ← input_words p.width (all_fields p)
  word ← input_word p.width
  comparing p terms fields word
