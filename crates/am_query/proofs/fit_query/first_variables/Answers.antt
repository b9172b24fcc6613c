use Rattle.std.proofs.Common.{◌≡◌, ℕ, zero, suc, ◌+◌, List, [], ◌∷◌, ◌++◌, ◌∙◌, ap, arith}
use Rattle.std.specs.List.{range_with_len}
use Rattle.am_query.proofs.fit_query.first_variables.Goals as goal

-- one number more
range-more : (a n : ℕ) → range_with_len a n ++ (a + n) ∷ [] ≡ range_with_len a (suc n)
range-more a zero = let same : a + 0 ≡ a = omega arith in ap (λ (x : ℕ). x ∷ []) same
range-more a (suc n) =
    let last : a + suc n ≡ a + 1 + n = omega arith in
    ap (λ (x : ℕ). a ∷ (range_with_len (a + 1) n ++ x ∷ [])) last ∙ ap (λ (xs : List ℕ). a ∷ xs) (range-more (a + 1) n)

pub loop-i-preserved : goal.loop-i-preserved
loop-i-preserved c =
    let next : suc c.loop-i.i ≡ c.loop-i.i + 1 = omega arith in
    c.in_ok-push.ensures.ok ∙ ap (λ (xs : List ℕ). xs ++ (1 + c.loop-i.i) ∷ []) c.loop-i.invariant
    ∙ range-more 1 c.loop-i.i ∙ ap (range_with_len 1) next
