use Rattle.std.proofs.Common.{◌≡◌, ℕ, zero, suc, ◌+◌, ◌<◌, ◌∷◌, [], ◌++◌, length, lit<, arith, ap, sym, ◌∙◌}
use Rattle.std.specs.List.{range_with_len}
use Rattle.std.proofs.lemmas.List.FromFn.{length-range_with_len}
use Rattle.am_pair.proofs.parts.fields_from_two.Goals as goal

range-suc : (a n : ℕ) → range_with_len a (suc n) ≡ range_with_len a n ++ (a + n) ∷ []
range-suc a zero = let e : a ≡ a + 0 = omega arith in ap (λ k. k ∷ []) e
range-suc a (suc n) =
    let e : a + 1 + n ≡ a + suc n = omega arith in
    ap (λ l. a ∷ l) (range-suc (a + 1) n) ∙ ap (λ k. a ∷ range_with_len (a + 1) n ++ k ∷ []) e

pub push-requires : goal.push-requires
push-requires c =
    let few : length c.loop-j.fields.items < 3 =
    omega (arith, ap length c.loop-j.invariant, length-range_with_len 2 c.loop-j.j) in
    (lit< tt, few)

pub loop-j-preserved : goal.loop-j-preserved
loop-j-preserved c =
    let on : suc c.loop-j.j ≡ c.loop-j.j + 1 = omega arith in
    c.push.ensures.items
    ∙ ap (λ l. l ++ (2 + c.loop-j.j) ∷ []) c.loop-j.invariant
    ∙ sym (range-suc 2 c.loop-j.j)
    ∙ ap (range_with_len 2) on
