-- What queries state is small: the load bounds it.
use Rattle.std.proofs.Common.{ℕ, ◌+◌, ◌*◌, ◌^◌, ◌≤◌, List, arith}
use Rattle.std.proofs.Math.Nat.{mul-le-mul, mul-le-mul_right}
use Rattle.am_bv.specs.Terms.{weight}
use Rattle.am_bv.specs.declared.term.Term.{Term}
use Rattle.am_slot.specs.Template.{weight_of_block}
use Rattle.am_problem.specs.Examples.{all_fields}
use Rattle.am_problem.specs.Limits.{IsProblem}
use Rattle.am_problem.specs.Loads.{assumption_weight}
use Rattle.am_problem.specs.Problem.{Problem}
use Rattle.am_problem.proofs.Laws.{rows_are_short}
use Rattle.am_query.specs.Formulas.{encoding_of}
use Rattle.am_query.specs.Transformers.{IsTransformerOf}
use Rattle.am_query.specs.inside.Parts.{comparing_weight, failing_weight}
use Rattle.am_query.specs.inside.Weights.{member_weight, valid_weight}
use Rattle.am_query.proofs.Sizes.{transformers_weigh}

module _ (p : Problem) (is : IsProblem p) where
  -- the parts of the load
  record AreLight : Type 0 where
    block : weight_of_block (encoding_of p) ≤ 2 ^ 23
    member : member_weight p ≤ 2 ^ 21
    valid : valid_weight p ≤ 2 ^ 22
    operation : weight p.width p.operation ≤ 2 ^ 24
    assume : assumption_weight p.width p.assume ≤ 2 ^ 24

  are_light : AreLight
  are_light = record {
    block = omega (arith, is.load);
    member = omega (arith, is.load);
    valid = omega (arith, is.load);
    operation = omega (arith, is.load);
    assume = omega (arith, is.load);
  }

  few-bits : (count : ℕ) → count ≤ 12 → count * p.width ≤ 96
  few-bits count few = let l : count * p.width ≤ 12 * 8 = mul-le-mul few is.formed.width.1 in omega (arith, l)

  -- the bits of all fields, and those of the words
  pub few_field_bits : all_fields p * p.width ≤ 96
  few_field_bits = few-bits (all_fields p) (rows_are_short p is.formed)

  -- the words of all inputs have at most 96 bits
  pub few_word_bits : p.inputs * p.width ≤ 96
  few_word_bits = few-bits p.inputs (omega (arith, is.formed.few_inputs))

  each-input : (k : ℕ) → p.inputs * (k + 1) ≤ 3 * (k + 1)
  each-input k = mul-le-mul_right (k + 1) is.formed.few_inputs

  -- what is stated of soundness is light
  pub failing_small : (terms : List Term) → IsTransformerOf p terms → failing_weight p terms ≤ 2 ^ 26
  failing_small terms t =
      let l = are_light in
      omega (
        arith,
        each-input (valid_weight p),
        l.valid,
        each-input (member_weight p),
        l.member,
        l.operation,
        l.assume,
        l.block,
        transformers_weigh p is.formed terms t,
      )

  -- what is stated of precision after the fit is light
  pub comparing_small : (terms : List Term) → IsTransformerOf p terms → comparing_weight p terms ≤ 2 ^ 26
  comparing_small terms t =
      let l = are_light in
      omega (arith, each-input (valid_weight p), l.valid, l.member, l.block, transformers_weigh p is.formed terms t)
