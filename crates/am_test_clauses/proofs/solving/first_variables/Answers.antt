use Rattle.std.proofs.Common.{◌≡◌, ◌<◌, ◌+◌, ◌∷◌, ◌++◌, ℕ, [], List, length, get_or, sym, ◌∙◌, ap, inl, inr}
use Rattle.std.proofs.Common.{arith, length-append}
use Rattle.std.proofs.lemmas.List.{get_or_append_left}
use Rattle.std.proofs.Math.Seq.{get_or-append_seam}
use Rattle.am_lit.proofs.Laws.{same_or}
use Rattle.am_test_clauses.proofs.solving.first_variables.Goals as goal

one_more : (xs : List ℕ) (n : ℕ) → length xs ≡ n → ((k d : ℕ) → k < n → get_or xs k d ≡ k)
    → (k d : ℕ) → k < n + 1 → get_or (xs ++ n ∷ []) k d ≡ k
one_more xs n long each k d lt = elim (same_or k n) [
  | inl e ↦ ap (λ j. get_or (xs ++ n ∷ []) j d) (e ∙ sym long) ∙ get_or-append_seam xs n [] d ∙ sym e
  | inr ne ↦ get_or_append_left xs (n ∷ []) d k (omega arith) ∙ each k d (omega arith)
]

pub loop-v-preserved : goal.loop-v-preserved
loop-v-preserved c =
    let i = c.loop-v.invariant in
    rw c.in_ok-push.ensures.items (record {
      len = omega (arith, i.len, length-append c.loop-v.variables.items (c.loop-v.v ∷ []));
      each = one_more c.loop-v.variables.items c.loop-v.v i.len i.each;
    })
