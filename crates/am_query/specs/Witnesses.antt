-- What truth values of the variables of a query's formula choose.
use Rattle.std.specs.Prelude.{ℕ, zero, suc, ◌+◌, ◌*◌, Bool, false, List, [], ◌∷◌, map}
use Rattle.am_bv.specs.declared.term.Term.{Term}
use Rattle.am_lit.specs.Literal.{literal_of}
use Rattle.am_blast.specs.Words.{reads}
use Rattle.am_domain.specs.Examples.{Excludes}
use Rattle.am_slot.specs.Template.{decoded, encoded_terms}
use Rattle.am_problem.specs.Examples.{all_fields, negative_of}
use Rattle.am_problem.specs.Problem.{Problem, question_of}
use Rattle.am_problem.specs.declared.examples.Negative.{Negative}
use Rattle.am_problem.specs.declared.examples.Positive.{Positive}
use Rattle.am_query.specs.Formulas.{encoding_of}
use Rattle.am_query.specs.Transformers.{IsAdmitted, IsTransformerOf, SuitsExamples}

-- ---- words of inputs

-- the literals of so many variables, from one on
abbrev pub word_from : ℕ → ℕ → List ℕ
word_from zero x = []
word_from (suc w) x = literal_of x false ∷ word_from w (x + 1)

-- so many words of w literals, one after another
abbrev pub words_from : ℕ → ℕ → ℕ → List (List ℕ)
words_from w zero x = []
words_from w (suc count) x = word_from w x ∷ words_from w count (x + w)

-- ---- of a formula of soundness

-- its inputs are the fields of all inputs, from variable 1 on, and then a word for each input
abbrev pub chosen_positive : Problem → (ℕ → Bool) → Positive
chosen_positive p v = record {
  inputs = map (reads v) (words_from p.width (all_fields p) 1);
  words = map (reads v) (words_from p.width p.inputs (1 + all_fields p * p.width));
}

-- ---- of a formula of precision

-- the transformer that the selectors choose
abbrev pub chosen_terms : Problem → (ℕ → Bool) → List Term
chosen_terms p v = encoded_terms (encoding_of p) (decoded (encoding_of p) v)

-- after the fit, from variable x on, its inputs are the fields of all inputs, and then a word
abbrev pub chosen_negative : Problem → ℕ → (ℕ → Bool) → Negative
chosen_negative p x v = record {
  inputs = map (reads v) (words_from p.width (all_fields p) x);
  word = reads v (word_from p.width (x + all_fields p * p.width));
}

-- a transformer that satisfies the examples, and a valid negative example that it excludes and the terms admit
pub record IsCloser (p : Problem) (terms : List Term) (positives : List Positive) (negatives : List Negative)
    (other : List Term) (e : Negative) : Type 0 where
  pub derivable : IsTransformerOf p other
  pub suits : SuitsExamples p other positives negatives
  pub excludes : Excludes (question_of p) other (negative_of p e)
  pub admitted : IsAdmitted p terms e
