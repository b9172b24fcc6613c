-- The test of a normal clause says yes exactly where the clause is normal.
use Rattle.std.proofs.Common.{ℕ, ◌≡◌, ◌+◌, ◌&&◌, ltb, leb, true, List, [], ◌∷◌, refl}
use Rattle.std.specs.Prelude.{◌↔◌}
use Rattle.std.proofs.lemmas.Bool.{and_from, and_parts, le-leb, leb-true, lt-ltb, ltb-true}
use Rattle.am_lit.specs.Clause.{IsNormal}
use Rattle.am_lit.specs.Literal.{variable_of}
use Rattle.am_lit.proofs.Laws.{Increases, normal_iff}
use Rattle.am_hint.specs.Hints.{is_normal, variables_increase}

increases : (least vars : ℕ) (c : List ℕ) → variables_increase least vars c ≡ true → Increases least vars c
increases least vars [] h = tt
increases least vars (l ∷ ls) h =
    let v = variable_of l in
    let first = and_parts (leb least v) (ltb v vars && variables_increase (v + 1) vars ls) h in
    let second = and_parts (ltb v vars) (variables_increase (v + 1) vars ls) first.1 in
    (leb-true least v first.0, ltb-true v vars second.0, increases (v + 1) vars ls second.1)

test_passes : (least vars : ℕ) (c : List ℕ) → Increases least vars c → variables_increase least vars c ≡ true
test_passes least vars [] h = refl
test_passes least vars (l ∷ ls) h =
    let v = variable_of l in
    and_from (leb least v) (ltb v vars && variables_increase (v + 1) vars ls) (le-leb least v h.0)
    (and_from (ltb v vars) (variables_increase (v + 1) vars ls) (lt-ltb v vars h.1) (test_passes (v + 1) vars ls h.2))

-- the test of a clause is whether it is normal
pub normal_tests_are_right : (vars : ℕ) (c : List ℕ) → (is_normal vars c ≡ true) ↔ IsNormal vars c
normal_tests_are_right vars c =
    ((λ t. (normal_iff vars c).1 (increases 0 vars c t)), (λ n. test_passes 0 vars c ((normal_iff vars c).0 n)))
