-- The circuit of a term reads as its value, and has as many gates as it weighs.
use Rattle.std.proofs.Common.{◌≡◌, ℕ, zero, suc, ◌+◌, ◌-◌, ◌/◌, ◌%◌, ◌^◌, ◌<◌, ◌≤◌, Bool, true, false, cond, List, []}
use Rattle.std.proofs.Common.{◌∷◌, map, length, drop, get_or, sum_by, eqb, refl, sym, ◌∙◌, ap, arith, subst}
use Rattle.std.specs.Prelude.{◌==◌, All, IsTrue, slice_index_or}
use Rattle.std.specs.List.{AllByRecursion, list_all}
use Rattle.std.proofs.Math.Nat.{pow-succ'}
use Rattle.std.proofs.Math.ListN.{get_or-map}
use Rattle.std.proofs.lemmas.Bool.{and_parts, ltb-true}
use Rattle.std.proofs.lemmas.Bool.Decides.{nat_tests}
use Rattle.std.proofs.lemmas.List.{drop_all}
use Rattle.std.proofs.lemmas.List.Sums.{sum_by-cons}
use Rattle.std.proofs.lemmas.List.Elements.{All-nil, All-cons}
use Rattle.am_gate.specs.Circuit.{Net, truth, falsity, IsLiteral}
use Rattle.am_gate.specs.Build.{Step, Place, place_of, ◌>>=◌, answer, Means, Follows}
use Rattle.am_gate.proofs.Laws.{Means-bind, Means-answer, Means-truth, Follows-bind, Follows-answer}
use Rattle.am_gate.proofs.Laws.{Makes-bind, Makes-answer, Makes-exactly}
use Rattle.am_gate.specs.Promises.{MakesGates}
use Rattle.am_lit.specs.Truth.{literal_value}
use Rattle.am_bv.specs.declared.op.Op.{Op}
use Rattle.am_bv.specs.declared.term.Term.{Term}
use Rattle.am_bv.specs.declared.term.Term.TheOpen.{Const as Const-F, Field as Field-F, Node as Node-F}
use Rattle.am_bv.specs.declared.term.Term.TheVariants.{Const, Field, Node, outs-Const, outs-Field, outs-Node}
use Rattle.am_bv.specs.Operators.{arity, weight_of}
use Rattle.am_bv.specs.Terms.{val, fits, weight}
use Rattle.am_bv.proofs.Laws.{Steps, by_induction, fold_at, val-Const, val-Field, val-Node, fits-Const, fits-Field}
use Rattle.am_bv.proofs.Laws.{fits-Node, fits_arity, weight-Const, weight-Field, weight-Node}
use Rattle.am_blast.specs.Words.{bit, reads, ReadsAs, IsWord, constant}
use Rattle.am_blast.specs.Circuits.{circuit_of, in_turn, blast_step, blasted}
use Rattle.am_blast.proofs.Words.{value-truth, value-falsity, IsWord-later, drop-from}
use Rattle.am_blast.proofs.Table.{circuit}

-- the circuit of a term, kind by kind

-- the circuit of a constant
pub blasted-Const : (w : ℕ) (fields : List (List ℕ)) (c : ℕ) → blasted w fields (Const c) ≡ answer (constant w c)
unfolding blasted
blasted-Const w fields c = fold_at (blast_step w fields) (Const c) (Const-F c) (outs-Const c)

-- the circuit of a field
pub blasted-Field : (w : ℕ) (fields : List (List ℕ)) (i : ℕ) →
    blasted w fields (Field i) ≡ answer (slice_index_or fields i [])
unfolding blasted
blasted-Field w fields i = fold_at (blast_step w fields) (Field i) (Field-F i) (outs-Field i)

-- the circuit of an operator's term
pub blasted-Node : (w : ℕ) (fields : List (List ℕ)) (op : Op) (ts : List Term) →
    blasted w fields (Node op ts) ≡ in_turn (map (blasted w fields) ts) >>= circuit_of w op
unfolding blasted
blasted-Node w fields op ts = fold_at (blast_step w fields) (Node op ts) (Node-F op ts) (outs-Node op ts)

-- constants

-- a constant is as long as the width
pub length-constant : (w c : ℕ) → length (constant w c) ≡ w
length-constant zero c = refl
length-constant (suc w) c = ap suc (length-constant w (c / 2))

constant-bit : (v : ℕ → Bool) (c : ℕ) → IsTrue (v 0) →
    bit (literal_value v (cond (eqb (c % 2) 0) falsity truth)) ≡ c % 2
constant-bit v c t = go (eqb (c % 2) 0) refl
  where
    go : (b : Bool) → eqb (c % 2) 0 ≡ b → bit (literal_value v (cond b falsity truth)) ≡ c % 2
    go true e = ap bit (value-falsity v t) ∙ grind (arith, nat_tests)
    go false e = ap bit (value-truth v t) ∙ grind (arith, nat_tests)

-- a constant reads as its number
pub reads-constant : (v : ℕ → Bool) (w c : ℕ) → IsTrue (v 0) → c < 2 ^ w → reads v (constant w c) ≡ c
reads-constant v zero c t h = omega (arith, h)
reads-constant v (suc w) c t h =
    let half : c / 2 < 2 ^ w = omega (arith, rw pow-succ' at h) in
    rw (constant-bit v c t, reads-constant v w (c / 2) t half) (omega arith)

-- a constant has literals
pub All-constant : (w c n : ℕ) → 0 < n → All (IsLiteral n) (constant w c)
All-constant zero c n pos = All-nil (IsLiteral n)
All-constant (suc w) c n pos =
    All-cons (IsLiteral n) _ (constant w (c / 2)) (go (eqb (c % 2) 0)) (All-constant w (c / 2) n pos)
  where
    go : (b : Bool) → IsLiteral n (cond b falsity truth)
    go true = omega (arith, pos)
    go false = omega (arith, pos)

-- a constant is a word
pub IsWord-constant : (w c n : ℕ) → 0 < n → IsWord w n (constant w c)
IsWord-constant w c n pos = record { bits = length-constant w c; inside = All-constant w c n pos }

-- the meaning

module _ (w : ℕ) (one : 1 ≤ w) (fields : List (List ℕ)) (v : ℕ → Bool)
    (long : All (λ word. length word ≡ w) fields) where
  abbrev HasMeaning : Term → Type 0
  HasMeaning t =
      IsTrue (fits w (length fields) t) → Means v (blasted w fields t) (ReadsAs v w (val w t (map (reads v) fields)))

  -- words that read as the values of terms
  record ReadAll (ts : List Term) (words : List (List ℕ)) : Type 0 where
    count : length words ≡ length ts
    bits : All (λ word. length word ≡ w) words
    values : map (reads v) words ≡ map (λ t. val w t (map (reads v) fields)) ts

  Means-in_turn : (ts : List Term) → AllByRecursion HasMeaning ts → list_all (fits w (length fields)) ts ≡ true →
      Means v (in_turn (map (blasted w fields) ts)) (ReadAll ts)
  unfolding in_turn
  Means-in_turn [] each fit =
      Means-answer _ (record { count = refl; bits = All-nil (λ word. length word ≡ w); values = refl })
  Means-in_turn (t ∷ ts) each fit =
      Means-bind _ (each.0 (and_parts _ _ fit).0)
      (λ word r. Means-bind _ (Means-in_turn ts each.1 (and_parts _ _ fit).1)
      (λ words rs. Means-answer _ (record {
        count = ap suc rs.count;
        bits = All-cons (λ x. length x ≡ w) word words r.bits rs.bits;
        values = rw (r.value, rs.values) refl;
      })))

  meaning : Steps HasMeaning
  meaning = record {
    const = λ c fit.
        let small : c < 2 ^ w = ltb-true _ _ (subst IsTrue (fits-Const w (length fields) c) fit) in
        rw (blasted-Const w fields c, val-Const w c (map (reads v) fields))
        (Means-truth
        (λ t. Means-answer _ (record { bits = length-constant w c; value = reads-constant v w c t small })));
    field = λ i fit.
        let within : i < length fields = ltb-true _ _ (subst IsTrue (fits-Field w (length fields) i) fit) in
        rw (blasted-Field w fields i, val-Field w i (map (reads v) fields))
        (Means-answer _ (record { bits = long i [] within; value = sym (get_or-map (reads v) fields i []) }));
    node = λ op ts each fit.
        let parts = and_parts _ _ (subst IsTrue (fits-Node w (length fields) op ts) fit) in
        let count = fits_arity w (length fields) op ts fit in
        rw (blasted-Node w fields op ts, val-Node w op ts (map (reads v) fields))
        (Means-bind _ (Means-in_turn ts each parts.1)
        (λ words r. rw r.values at ((circuit w one op).means v words (r.count ∙ count) r.bits)));
  }

  -- the circuit of a term reads as the term's value
  pub Means-blasted : (t : Term) → IsTrue (fits w (length fields) t) →
      Means v (blasted w fields t) (ReadsAs v w (val w t (map (reads v) fields)))
  Means-blasted = by_induction HasMeaning meaning

-- the gates

module _ (w : ℕ) (one : 1 ≤ w) (fields : List (List ℕ)) where
  abbrev HasGates : Term → Type 0
  HasGates t = IsTrue (fits w (length fields) t) → (p : Place) → 0 < p.next → All (IsWord w p.next) fields →
      MakesGates (blasted w fields t) (weight w t) (IsWord w) p

  fields-later : (n m : ℕ) → n ≤ m → All (IsWord w n) fields → All (IsWord w m) fields
  fields-later n m l h = λ i d lt. IsWord-later w n m _ l (h i d lt)

  abbrev AreWordsOf : List Term → ℕ → List (List ℕ) → Type 0
  AreWordsOf ts n words = (length words ≡ length ts) × All (IsWord w n) words

  pub Makes-in_turn : (ts : List Term) → AllByRecursion HasGates ts → list_all (fits w (length fields)) ts ≡ true →
      (p : Place) → 0 < p.next → All (IsWord w p.next) fields →
      MakesGates (in_turn (map (blasted w fields) ts)) (sum_by (weight w) ts) (AreWordsOf ts) p
  unfolding in_turn
  Makes-in_turn [] each fit p pos h = Makes-answer _ (refl, All-nil (IsWord w p.next))
  Makes-in_turn (t ∷ ts) each fit p pos h =
      Makes-bind _ (sum_by (weight w) ts) (each.0 (and_parts _ _ fit).0 p pos h) (sym (sum_by-cons (weight w) t ts))
      (λ word q l f. Makes-bind _ 0
      (Makes-in_turn ts each.1 (and_parts _ _ fit).1 q (omega (arith, pos, l))
      (fields-later p.next q.next (omega (arith, l)) h))
      (omega arith)
      (λ words r k g. Makes-answer _ (
        ap suc g.0,
        All-cons (IsWord w r.next) word words (IsWord-later w q.next r.next word (omega (arith, k)) f) g.1,
      )))

  gates : Steps HasGates
  gates = record {
    const = λ c fit p pos h. rw (blasted-Const w fields c, weight-Const w c)
        (Makes-answer _ (record { bits = length-constant w c; inside = All-constant w c p.next pos }));
    field = λ i fit p pos h.
        let within : i < length fields = ltb-true _ _ (subst IsTrue (fits-Field w (length fields) i) fit) in
        rw (blasted-Field w fields i, weight-Field w i) (Makes-answer _ (h i [] within));
    node = λ op ts each fit p pos h.
        let fit_all : list_all (fits w (length fields)) ts ≡ true =
        (and_parts (length ts == arity op) (list_all (fits w (length fields)) ts)
        (subst IsTrue (fits-Node w (length fields) op ts) fit)).1 in
        let count = fits_arity w (length fields) op ts fit in
        let sum : sum_by (weight w) ts + weight_of w op ≡ weight_of w op + sum_by (weight w) ts = omega arith in
        rw (blasted-Node w fields op ts, weight-Node w op ts)
        (Makes-bind (circuit_of w op) (weight_of w op)
        (Makes-in_turn ts each fit_all p pos h) sum
        (λ words q l g. (circuit w one op).makes q words (omega (arith, pos, l)) (g.0 ∙ count) g.1));
  }

  -- the circuit of a term is at most as many gates as the term weighs
  pub Makes-blasted : (t : Term) → IsTrue (fits w (length fields) t) → (p : Place) → 0 < p.next →
      All (IsWord w p.next) fields →
      MakesGates (blasted w fields t) (weight w t) (IsWord w) p
  Makes-blasted = by_induction HasGates gates

-- one more argument, and all of them

-- one step, and then the others in turn
pub Follows-in_turn_at : (f : Term → Step (List ℕ)) (i : ℕ) (t : Term) (ts : List Term) (n m end : Net) (word : List ℕ)
    (rest : List (List ℕ)) →
    i < length ts → t ≡ get_or ts i t → Follows (f t) n word m →
    Follows (in_turn (map f (drop (i + 1) ts))) m rest end →
    Follows (in_turn (map f (drop i ts))) n (word ∷ rest) end
unfolding in_turn
Follows-in_turn_at f i t ts n m end word rest l e one more =
    rw (drop-from i t ts l e) (Follows-bind _ one (Follows-bind _ more Follows-answer))

-- no more steps make nothing
pub Follows-in_turn_end : (f : Term → Step (List ℕ)) (i : ℕ) (ts : List Term) (n : Net) → length ts ≤ i →
    Follows (in_turn (map f (drop i ts))) n [] n
unfolding in_turn
Follows-in_turn_end f i ts n l = rw (drop_all i ts l) Follows-answer

-- the bits of a constant from the lowest on
pub constant-next : (w i c : ℕ) → i < w →
    constant (w - i) c ≡ cond (eqb (c % 2) 0) falsity truth ∷ constant (w - (i + 1)) (c / 2)
constant-next w i c l = let e : w - i ≡ suc (w - (i + 1)) = omega (arith, l) in ap (λ k. constant k c) e

-- what a circuit has where a term is made in it

module _ (w : ℕ) (one : 1 ≤ w) (fields : List (List ℕ)) (t : Term) (n : Net) (fit : IsTrue (fits w (length fields) t))
    (truth : 0 < n.vars) (words : All (IsWord w n.vars) fields) where
  its : MakesGates (blasted w fields t) (weight w t) (IsWord w) (place_of n)
  its = Makes-blasted w one fields t fit (place_of n) truth words

  -- a circuit that doesn't fold makes as many gates as the term weighs
  pub its_count : (r : List ℕ) (new : Net) → n.folding ≡ false → Follows (blasted w fields t) n r new →
      new.vars ≡ n.vars + weight w t
  its_count r new plain follows = Makes-exactly plain its follows
