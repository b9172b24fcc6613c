-- The words of the inputs of queries' formulas, as calls answer them.
use Rattle.std.specs.Prelude.{ℕ, ◌≡◌, ◌+◌, ◌*◌}
use Rattle.am_blast.specs.Words.{IsWord}
use Rattle.am_problem.specs.Examples.{all_fields}
use Rattle.am_problem.specs.Problem.{Problem}
use Rattle.am_query.specs.Witnesses.{word_from, words_from}
use Rattle.am_query.specs.declared.precision.PreciseInputs.{PreciseInputs}
use Rattle.am_query.specs.declared.soundness.SoundInputs.{SoundInputs}
use Rattle.am_query.specs.inside.Words.{AreWordsIn}

-- those of a formula of soundness, which has so many variables
pub record AreSoundInputs (p : Problem) (vars : ℕ) (i : SoundInputs) : Type 0 where
  pub fields : i.fields ≡ words_from p.width (all_fields p) 1
  pub words : i.words ≡ words_from p.width p.inputs (1 + all_fields p * p.width)
  pub fields_inside : AreWordsIn p.width (all_fields p) vars i.fields
  pub words_inside : AreWordsIn p.width p.inputs vars i.words

-- those of a formula of precision, which stand after the first x variables
pub record ArePreciseInputs (p : Problem) (x vars : ℕ) (i : PreciseInputs) : Type 0 where
  pub fields : i.fields ≡ words_from p.width (all_fields p) x
  pub word : i.word ≡ word_from p.width (x + all_fields p * p.width)
  pub fields_inside : AreWordsIn p.width (all_fields p) vars i.fields
  pub word_inside : IsWord p.width vars i.word
