-- The terms of domains are small.
use Rattle.std.proofs.Common.{ℕ, zero, suc, ◌^◌, ◌≤◌, arith, lit≤}
use Rattle.am_bv.specs.Terms.{nodes}
use Rattle.am_bv.specs.Words.{IsWidth}
use Rattle.am_problem.specs.declared.kind.Kind.{Kind}
use Rattle.am_problem.specs.Kinds.{member_term_of, valid_term_of}
use Rattle.am_problem.specs.lemmas.KindLaws.{laws_of}

few_powers : (fields : ℕ) → fields ≤ 4 → 16 ^ fields ≤ 65536
few_powers zero h = lit≤ tt
few_powers (suc zero) h = lit≤ tt
few_powers (suc (suc zero)) h = lit≤ tt
few_powers (suc (suc (suc zero))) h = lit≤ tt
few_powers (suc (suc (suc (suc zero)))) h = lit≤ tt
few_powers (suc (suc (suc (suc (suc n))))) h = absurd (omega (arith, h))

-- a domain's term for validity has at most 65,536 nodes
pub small_valid : (kind : Kind) (w : ℕ) → IsWidth w → nodes (valid_term_of kind w) ≤ 65536
small_valid kind w width =
    omega (arith, ((laws_of kind).tells_validity w width).small, few_powers _ (laws_of kind).few_fields)

-- a domain's term for membership has at most 65,536 nodes
pub small_member : (kind : Kind) (w : ℕ) → IsWidth w → nodes (member_term_of kind w) ≤ 65536
small_member kind w width =
    omega (arith, ((laws_of kind).tells_membership w width).small, few_powers _ (laws_of kind).few_fields)
