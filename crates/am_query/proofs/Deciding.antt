-- Membership is decided by the term for it.
use Rattle.std.proofs.Common.{◌≡◌, ℕ, ◌^◌, ◌<◌, ◌⊎◌, inl, inr, Bool, true, false, List, refl}
use Rattle.am_domain.specs.Laws.{is_member}
use Rattle.am_domain.specs.Question.{IsMember}
use Rattle.am_domain.specs.Tuple.{IsTuple}
use Rattle.am_domain.proofs.Laws.{is_member-tells}
use Rattle.am_problem.specs.Kinds.{abstraction_of, fields_of, member_term_of}
use Rattle.am_problem.specs.Limits.{IsFormed}
use Rattle.am_problem.specs.Problem.{Problem, question_of}
use Rattle.am_problem.specs.lemmas.KindLaws.{laws_of}

module _ (p : Problem) (formed : IsFormed p) (tuple : List ℕ) (is : IsTuple p.width (fields_of p.kind) tuple) (c : ℕ)
    (below : c < 2 ^ p.width) where
  -- a word is a member of a tuple, or it isn't
  pub member_or : IsMember (question_of p) tuple c ⊎ (¬ IsMember (question_of p) tuple c)
  member_or = go (is_member p.width (member_term_of p.kind p.width) tuple c) refl
    where
      go : (b : Bool) → is_member p.width (member_term_of p.kind p.width) tuple c ≡ b
          → IsMember (question_of p) tuple c ⊎ (¬ IsMember (question_of p) tuple c)
      go true e =
          inl
          ((is_member-tells (abstraction_of p.kind) (laws_of p.kind).tells_membership p.width formed.width tuple is
          c below).0
          e)
      go false e = inr (λ member.
          let told = (is_member-tells (abstraction_of p.kind) (laws_of p.kind).tells_membership p.width formed.width
          tuple is c below).1
          member in
          absurd (cc (e, told)))

  -- a word that can't be outside is a member
  pub member_if_not_outside : (¬ (¬ IsMember (question_of p) tuple c)) → IsMember (question_of p) tuple c
  member_if_not_outside h = elim member_or [ inl yes_member ↦ yes_member | inr none ↦ absurd (h none) ]
