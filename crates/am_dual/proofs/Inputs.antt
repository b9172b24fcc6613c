-- Where enough clauses may be derived for one query of a problem, enough may be for each.
use Rattle.std.proofs.Common.{◌^◌, ◌≤◌, arith}
use Rattle.std.proofs.Math.Nat.{pow-le-pow_right}
use Rattle.am_problem.specs.Problem.{Problem}
use Rattle.am_query.specs.Queries.{input_count}
use Rattle.am_query.specs.declared.query.Query.{Query}
use Rattle.am_query.specs.declared.query.Query.TheVariants.{Fit, Precise, Sound}
use Rattle.am_dual.specs.Synthesis.{most_inputs}

-- the circuit of each query has at most so many inputs
few_inputs : (p : Problem) (q : Query) → input_count p q ≤ most_inputs p
few_inputs p (Fit positives negatives) = omega arith
few_inputs p (Sound t) = omega arith
few_inputs p (Precise t positives negatives) = omega arith

-- where 3 to the most inputs is allowed, so is 3 to the inputs of each query
pub enough_for : (p : Problem) (q : Query) → 3 ^ most_inputs p ≤ p.conflicts → 3 ^ input_count p q ≤ p.conflicts
enough_for p q h =
    let more : 3 ^ input_count p q ≤ 3 ^ most_inputs p = pow-le-pow_right {n = 3} (omega arith) (few_inputs p q) in
    omega (arith, h, more)
