-- What the term for membership tells at a tuple and a word.
use Rattle.std.proofs.Common.{◌≡◌, ◌≢◌, ℕ, ◌^◌, ◌<◌, ◌↔◌, not, ◌==◌, List, [], ◌∷◌, ◌++◌, IsTrue, take, slice_index}
use Rattle.std.proofs.Common.{subst, ap, sym, ◌∙◌, arith}
use Rattle.std.proofs.Math.Seq.{take-append_seam, get_or-append_seam}
use Rattle.std.proofs.lemmas.Bool.Decides.{nat_tests}
use Rattle.am_bv.specs.Words.{IsWidth}
use Rattle.am_bv.specs.Terms.{val}
use Rattle.am_domain.specs.Tuple.{IsTuple}
use Rattle.am_domain.specs.Abstraction.{Abstraction}
use Rattle.am_domain.specs.Laws.{TellsMembership, is_member}
use Rattle.am_domain.proofs.Tuples.{IsTuple-append, single-IsTuple}

nonzero : (n : ℕ) → IsTrue (not (n == 0)) ↔ (n ≢ 0)
nonzero n = grind (arith, nat_tests)

-- the test by the term for membership holds exactly at the members
pub is_member-tells : (d : Abstraction) → TellsMembership d →
    (w : ℕ) → IsWidth w → (a : List ℕ) → IsTuple w d.meaning.fields a → (c : ℕ) → c < 2 ^ w →
    IsTrue (is_member w (d.member_term w) a c) ↔ d.meaning.Member w a c
is_member-tells d law w width a tuple c below = (
  λ h. subst (λ b. d.meaning.Member w b c) before
      (subst (d.meaning.Member w (take d.meaning.fields row)) at ((tells).0 ((nonzero _).0 h))),
  λ h. (nonzero _).1
      (tells.1
      (subst (d.meaning.Member w (take d.meaning.fields row)) (sym at)
      (subst (λ b. d.meaning.Member w b c) (sym before) h))),
)
  where
    row : List ℕ
    row = a ++ c ∷ []

    before : take d.meaning.fields row ≡ a
    before = ap (λ n. take n row) (sym tuple.counted) ∙ take-append_seam a (c ∷ [])

    at : slice_index row d.meaning.fields ≡ c
    at = ap (slice_index row) (sym tuple.counted) ∙ get_or-append_seam a c [] 0

    tells : (val w (d.member_term w) row ≢ 0)
        ↔ d.meaning.Member w (take d.meaning.fields row) (slice_index row d.meaning.fields)
    tells = (law w width).tells row (IsTuple-append w d.meaning.fields 1 a (c ∷ []) tuple (single-IsTuple w c below))
