-- The circuits of several terms, one after another.
use Rattle.std.proofs.Common.{◌≡◌, ℕ, suc, ◌<◌, ◌≤◌, Bool, List, [], ◌∷◌, map, length, sum_by, refl, sym, ap, arith}
use Rattle.std.specs.Prelude.{All, IsTrue}
use Rattle.std.proofs.lemmas.List.Sums.{sum_by-cons}
use Rattle.std.proofs.lemmas.List.Elements.{All-nil, All-cons, All-head, All-tail}
use Rattle.am_gate.specs.Build.{Place, Means}
use Rattle.am_gate.specs.Promises.{MakesGates}
use Rattle.am_gate.proofs.Laws.{Means-bind, Means-answer, Makes-bind, Makes-answer}
use Rattle.am_bv.specs.declared.term.Term.{Term}
use Rattle.am_bv.specs.Terms.{val, fits, weight}
use Rattle.am_blast.specs.Words.{reads, IsWord}
use Rattle.am_blast.specs.Circuits.{in_turn, blasted}
use Rattle.am_blast.proofs.Words.{IsWord-later}
use Rattle.am_blast.proofs.Blasted.{Means-blasted, Makes-blasted}

-- words of so many bits that read as the values of terms
pub record ReadEach (w : ℕ) (fields : List (List ℕ)) (v : ℕ → Bool) (ts : List Term) (words : List (List ℕ)) : Type
    0 where
  pub bits : All (λ word. length word ≡ w) words
  pub values : map (reads v) words ≡ map (λ t. val w t (map (reads v) fields)) ts

-- one word for each term, of literals of variables below a number
pub record AreWordsFor (w : ℕ) (ts : List Term) (vars : ℕ) (words : List (List ℕ)) : Type 0 where
  pub many : length words ≡ length ts
  pub each : All (IsWord w vars) words

module _ (w : ℕ) (one : 1 ≤ w) (fields : List (List ℕ)) where
  -- each term fits the width and the fields
  abbrev pub FitEach : List Term → Type 0
  FitEach ts = All (λ t. IsTrue (fits w (length fields) t)) ts

  -- the circuits of terms read as their values
  pub Means-terms : (v : ℕ → Bool) → All (λ word. length word ≡ w) fields → (ts : List Term) → FitEach ts →
      Means v (in_turn (map (blasted w fields) ts)) (ReadEach w fields v ts)
  unfolding in_turn
  Means-terms v long [] fit = Means-answer _ (record { bits = All-nil (λ word. length word ≡ w); values = refl })
  Means-terms v long (t ∷ ts) fit =
      Means-bind _ (Means-blasted w one fields v long t (All-head (λ t. IsTrue (fits w (length fields) t)) t ts fit))
      (λ word r. Means-bind _ (Means-terms v long ts (All-tail (λ t. IsTrue (fits w (length fields) t)) t ts fit))
      (λ words rs. Means-answer _ (record {
        bits = All-cons (λ x. length x ≡ w) word words r.bits rs.bits;
        values = rw (r.value, rs.values) refl;
      })))

  -- the circuits of terms are at most as many gates as they weigh
  pub Makes-terms : (ts : List Term) → FitEach ts → (p : Place) → 0 < p.next → All (IsWord w p.next) fields →
      MakesGates (in_turn (map (blasted w fields) ts)) (sum_by (weight w) ts) (AreWordsFor w ts) p
  unfolding in_turn
  Makes-terms [] fit p pos h = Makes-answer _ (record { many = refl; each = All-nil (IsWord w p.next) })
  Makes-terms (t ∷ ts) fit p pos h =
      Makes-bind _ (sum_by (weight w) ts)
      (Makes-blasted w one fields t (All-head (λ t. IsTrue (fits w (length fields) t)) t ts fit) p pos h)
      (sym (sum_by-cons (weight w) t ts))
      (λ word q l f. Makes-bind _ 0
      (Makes-terms ts (All-tail (λ t. IsTrue (fits w (length fields) t)) t ts fit) q (omega (arith, pos, l))
      (λ i d lt. IsWord-later w p.next q.next _ l (h i d lt))) (omega arith)
      (λ words r k g. Makes-answer _ (record {
        many = ap suc g.many;
        each = All-cons (IsWord w r.next) word words (IsWord-later w q.next r.next word k f) g.each;
      })))
