-- The tests whether words are equal, and whether a word isn't 0.
use Rattle.std.proofs.Common.{◌≡◌, ℕ, ◌+◌, ◌*◌, ◌<◌, ◌≤◌, Bool, true, false, not, cond, eqb, List, [], ◌∷◌, ◌&&◌, ◌||◌}
use Rattle.std.proofs.Common.{length, drop, get_or, refl, sym, ◌∙◌, ap, arith}
use Rattle.std.specs.Prelude.{All}
use Rattle.std.specs.Bool.{beq}
use Rattle.std.proofs.Math.Bool.{and-true, not-not}
use Rattle.std.proofs.lemmas.Bool.Decides.{nat_tests}
use Rattle.std.proofs.lemmas.List.{drop_all}
use Rattle.am_lit.proofs.Laws.{literal_value-opposite_of}
use Rattle.am_gate.specs.Circuit.{Event.And, Event.Xor, Net, truth, falsity, IsLiteral}
use Rattle.am_gate.specs.Build.{Place, ask, Means, Follows}
use Rattle.am_gate.proofs.Laws.{Means-bind, Means-answer, Means-and, Means-xor, Means-weaker, Means-truth, Follows-bind}
use Rattle.am_gate.proofs.Laws.{Follows-answer, Makes-bind, Makes-answer, Makes-and, Makes-xor, Makes-count}
use Rattle.am_gate.proofs.Laws.{IsLiteral-opposite}
use Rattle.am_gate.specs.Promises.{MakesGates}
use Rattle.am_lit.specs.Literal.{opposite_of}
use Rattle.am_lit.specs.Truth.{literal_value}
use Rattle.am_bv.specs.declared.op.Op.TheVariants.{Eq, Ite}
use Rattle.am_blast.specs.Words.{bit, reads}
use Rattle.am_blast.specs.Bitwise.{either}
use Rattle.am_blast.specs.Comparisons.{equal_from, equal, nonzero_from, nonzero}
use Rattle.am_blast.specs.Promises.{IsCircuitOf}
use Rattle.am_blast.proofs.Arguments.{of_two, of_three}
use Rattle.am_blast.proofs.Bits.{Means-either, Means-choice, Makes-either, Makes-choice}
use Rattle.am_blast.proofs.Flags.{Means-flagged, Makes-flagged}
use Rattle.am_blast.proofs.Words.{first_inside, others_inside, drop-from, value-truth, value-falsity}

eqb-bit : (x y : Bool) (r s : ℕ) → eqb (bit x + 2 * r) (bit y + 2 * s) ≡ (beq x y && eqb r s)
eqb-bit true true r s = grind (arith, nat_tests)
eqb-bit true false r s = grind (arith, nat_tests)
eqb-bit false true r s = grind (arith, nat_tests)
eqb-bit false false r s = grind (arith, nat_tests)

one_more : (e x y : Bool) (r s : ℕ) →
    ((e && not (not (beq x y))) && eqb r s) ≡ (e && eqb (bit x + 2 * r) (bit y + 2 * s))
one_more true x y r s = rw (not-not, eqb-bit) refl
one_more false x y r s = refl

pub Means-equal_from : (v : ℕ → Bool) (e : ℕ) (xs ys : List ℕ) → length ys ≡ length xs →
    Means v (equal_from e xs ys) (λ r. literal_value v r ≡ (literal_value v e && eqb (reads v xs) (reads v ys)))
unfolding equal_from
Means-equal_from v e [] [] h = Means-answer _ (sym (and-true (literal_value v e)))
Means-equal_from v e [] (y ∷ ys) h = absurd (omega arith)
Means-equal_from v e (x ∷ xs) [] h = absurd (omega arith)
Means-equal_from v e (x ∷ xs) (y ∷ ys) h =
    Means-bind _ (Means-xor v x y)
    (λ differ m. Means-bind _ (Means-and v e (opposite_of differ))
    (λ next n. Means-weaker (Means-equal_from v next xs ys (omega arith))
    (λ r k. k
    ∙ rw (n, literal_value-opposite_of v differ, m)
    (one_more (literal_value v e) (literal_value v x) (literal_value v y) (reads v xs) (reads v ys)))))

-- the gates of a test whether two words are equal
pub Makes-equal_from : (e : ℕ) (xs ys : List ℕ) (p : Place) → length ys ≡ length xs → IsLiteral p.next e →
    All (IsLiteral p.next) xs → All (IsLiteral p.next) ys →
    MakesGates (equal_from e xs ys) (2 * length xs) IsLiteral p
unfolding equal_from
Makes-equal_from e [] [] p h he hx hy = Makes-answer _ he
Makes-equal_from e [] (y ∷ ys) p h he hx hy = absurd (omega arith)
Makes-equal_from e (x ∷ xs) [] p h he hx hy = absurd (omega arith)
Makes-equal_from e (x ∷ xs) (y ∷ ys) p h he hx hy =
    Makes-bind _ (1 + 2 * length xs) (Makes-xor x y p (first_inside p.next x xs hx) (first_inside p.next y ys hy))
    (omega arith)
    (λ differ q l m. Makes-bind _ (2 * length xs)
    (Makes-and e (opposite_of differ) q (omega (arith, he, l)) (IsLiteral-opposite q.next differ m)) refl
    (λ next r k n. Makes-equal_from next xs ys r (omega arith) n (others_inside p.next r.next x xs (omega arith) hx)
    (others_inside p.next r.next y ys (omega arith) hy)))

-- one more bit of the test
pub Follows-equal_from_at : (i e x y differ next : ℕ) (xs ys : List ℕ) (n m k end : Net) (r : ℕ) →
    i < length xs → i < length ys → x ≡ get_or xs i x → y ≡ get_or ys i y →
    Follows (ask (Xor x y)) n differ m → Follows (ask (And e (opposite_of differ))) m next k →
    Follows (equal_from next (drop (i + 1) xs) (drop (i + 1) ys)) k r end →
    Follows (equal_from e (drop i xs) (drop i ys)) n r end
unfolding equal_from
Follows-equal_from_at i e x y differ next xs ys n m k end r lx ly ex ey one two rest =
    rw (drop-from i x xs lx ex, drop-from i y ys ly ey)
    (Follows-bind _ one (Follows-bind _ two rest))

-- a test of no more bits makes nothing
pub Follows-equal_from_end : (i e : ℕ) (xs ys : List ℕ) (n : Net) → length xs ≤ i →
    Follows (equal_from e (drop i xs) (drop i ys)) n e n
unfolding equal_from
Follows-equal_from_end i e xs ys n l = rw (drop_all i xs l) Follows-answer

-- a word isn't 0 where a bit is set
nonzero-bit : (n x : Bool) (r : ℕ) → (not (not n && not x) || not (eqb r 0)) ≡ (n || not (eqb (bit x + 2 * r) 0))
nonzero-bit true x r = refl
nonzero-bit false true r = grind (arith, nat_tests)
nonzero-bit false false r = grind (arith, nat_tests)

or-false : (b : Bool) → (b || false) ≡ b
or-false true = refl
or-false false = refl

pub Means-nonzero_from : (v : ℕ → Bool) (n : ℕ) (xs : List ℕ) →
    Means v (nonzero_from n xs) (λ r. literal_value v r ≡ (literal_value v n || not (eqb (reads v xs) 0)))
unfolding nonzero_from
Means-nonzero_from v n [] = Means-answer _ (sym (or-false (literal_value v n)))
Means-nonzero_from v n (x ∷ xs) =
    Means-bind _ (Means-either v n x)
    (λ next m. Means-weaker (Means-nonzero_from v next xs)
    (λ r k. k ∙ rw m (nonzero-bit (literal_value v n) (literal_value v x) (reads v xs))))

-- the gates of a test whether a word isn't 0
pub Makes-nonzero_from : (n : ℕ) (xs : List ℕ) (p : Place) → IsLiteral p.next n → All (IsLiteral p.next) xs →
    MakesGates (nonzero_from n xs) (length xs) IsLiteral p
unfolding nonzero_from
Makes-nonzero_from n [] p hn hx = Makes-answer _ hn
Makes-nonzero_from n (x ∷ xs) p hn hx =
    Makes-bind _ (length xs) (Makes-either n x p hn (first_inside p.next x xs hx)) (omega arith)
    (λ next q l m. Makes-nonzero_from next xs q m (others_inside p.next q.next x xs (omega arith) hx))

-- the test whether a word isn't 0 is true exactly there
pub Means-nonzero : (v : ℕ → Bool) (xs : List ℕ) →
    Means v (nonzero xs) (λ r. literal_value v r ≡ not (eqb (reads v xs) 0))
Means-nonzero v xs =
    Means-truth (λ t. Means-weaker (Means-nonzero_from v falsity xs)
    (λ r k. k ∙ ap (λ x. x || not (eqb (reads v xs) 0)) (value-falsity v t)))

-- the test whether a word isn't 0 is at most a gate for each of its literals
pub Makes-nonzero : (xs : List ℕ) (p : Place) → 0 < p.next → All (IsLiteral p.next) xs →
    MakesGates (nonzero xs) (length xs) IsLiteral p
Makes-nonzero xs p pos h = Makes-nonzero_from falsity xs p pos h

-- one more bit of the test
pub Follows-nonzero_from_at : (i n x next : ℕ) (xs : List ℕ) (old m end : Net) (r : ℕ) → i < length xs →
    x ≡ get_or xs i x →
    Follows (either n x) old next m → Follows (nonzero_from next (drop (i + 1) xs)) m r end →
    Follows (nonzero_from n (drop i xs)) old r end
unfolding nonzero_from
Follows-nonzero_from_at i n x next xs old m end r l e one rest = rw (drop-from i x xs l e) (Follows-bind _ one rest)

-- a test of no more bits makes nothing
pub Follows-nonzero_from_end : (i n : ℕ) (xs : List ℕ) (old : Net) → length xs ≤ i →
    Follows (nonzero_from n (drop i xs)) old n old
unfolding nonzero_from
Follows-nonzero_from_end i n xs old l = rw (drop_all i xs l) Follows-answer

-- the operators

-- the circuit of equality
pub eq-circuit : (w : ℕ) → 1 ≤ w → IsCircuitOf w Eq
eq-circuit w one = of_two w Eq refl
    (λ v a b ea eb. Means-truth (λ t. Means-flagged v w (equal a b) (eqb (reads v a) (reads v b)) one t
    (Means-weaker (Means-equal_from v truth a b (eb ∙ sym ea))
    (λ r k. k ∙ ap (λ x. x && eqb (reads v a) (reads v b)) (value-truth v t)))))
    (λ p a b pos ha hb. Makes-flagged w (2 * w) (equal a b) p one pos
    (rw ha.bits at (Makes-equal_from truth a b p (hb.bits ∙ sym ha.bits) pos ha.inside hb.inside)))

where_zero : (n : ℕ) (x y : ℕ) → cond (not (eqb n 0)) x y ≡ cond (eqb n 0) y x
where_zero n x y = go (eqb n 0)
  where
    go : (b : Bool) → cond (not b) x y ≡ cond b y x
    go true = refl
    go false = refl

-- the circuit of the choice
pub ite-circuit : (w : ℕ) → IsCircuitOf w Ite
ite-circuit w = of_three w Ite refl
    (λ v c a b ec ea eb. Means-weaker
    (Means-choice v (nonzero c) (not (eqb (reads v c) 0)) a b (eb ∙ sym ea) (Means-nonzero v c))
    (λ r k. record { bits = k.bits ∙ ea; value = k.value ∙ where_zero (reads v c) (reads v a) (reads v b) }))
    (λ p c a b pos hc ha hb. Makes-count
    (rw (hc.bits, ha.bits) at
    (Makes-choice (nonzero c) (length c) a b p (hb.bits ∙ sym ha.bits) ha.inside hb.inside
    (Makes-nonzero c p pos hc.inside)))
    (omega arith))
