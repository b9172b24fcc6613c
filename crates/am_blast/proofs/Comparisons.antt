-- Tests of the order of words, unsigned and signed: what they read, how many gates they take, and how code follows
-- them.
use Rattle.std.proofs.Common.{◌≡◌, ℕ, zero, suc, ◌+◌, ◌-◌, ◌*◌, ◌^◌, ◌<◌, ◌≤◌, min, max, Bool, true, false, not, cond}
use Rattle.std.proofs.Common.{ltb, leb, List, length, take, drop, length-append, ℤ, pos, ◌-ℤ◌, int_lt, int_le, refl}
use Rattle.std.proofs.Common.{sym, ◌∙◌, ap, arith, subst}
use Rattle.std.specs.Prelude.{IsTrue}
use Rattle.std.proofs.Math.Nat.{pow-succ'}
use Rattle.std.proofs.lemmas.Bool.{le-leb, lt-leb, ltb-true, ltb-false, leb-true, leb-false}
use Rattle.std.proofs.lemmas.Bool.Decides.{nat_tests}
use Rattle.std.proofs.lemmas.Int.{ints}
use Rattle.std.proofs.lemmas.List.{length-map, take-append-drop, length-take-le, length-drop}
use Rattle.am_lit.proofs.Laws.{literal_value-opposite_of}
use Rattle.am_gate.specs.Circuit.{Net, truth, IsLiteral}
use Rattle.am_gate.specs.Build.{Step, Place, Means, Follows}
use Rattle.am_gate.proofs.Laws.{Means-bind, Means-answer, Means-truth, Follows-bind, Follows-answer, Makes-bind}
use Rattle.am_gate.proofs.Laws.{Makes-answer, Makes-count, IsLiteral-opposite}
use Rattle.am_gate.specs.Promises.{MakesGates}
use Rattle.am_lit.specs.Literal.{opposite_of}
use Rattle.am_lit.specs.Truth.{literal_value}
use Rattle.am_bv.specs.declared.op.Op.TheVariants.{Ult, Ule, Slt, Sle, Umin, Umax, Smin, Smax}
use Rattle.am_bv.specs.Words.{signed}
use Rattle.am_blast.specs.Words.{bit, reads, ReadsAs, IsWord, AreWordPair, opposites, sign_turned}
use Rattle.am_blast.specs.Bitwise.{choice}
use Rattle.am_blast.specs.Sums.{adder, carry_of}
use Rattle.am_blast.specs.Comparisons.{below, most}
use Rattle.am_blast.specs.Promises.{IsCircuitOf}
use Rattle.am_blast.proofs.Words.{reads-lt, reads-opposites, reads-append, value-truth, All-opposites, All-sign_turned}
use Rattle.am_blast.proofs.Flags.{Means-flagged, Makes-flagged}
use Rattle.am_blast.proofs.Bits.{Means-choice, Makes-choice}
use Rattle.am_blast.proofs.Arguments.{of_two}
use Rattle.am_blast.proofs.Sums.{Means-adder, Makes-adder}

-- the last carry of b minus a says whether a is at most b

carry_is : (s a b n p : ℕ) (c : Bool) → s + p * bit c ≡ b + n + 1 → n + a + 1 ≡ p → s < p → b < p → c ≡ leb a b
carry_is s a b n p true e f l m = sym (le-leb a b (omega arith))
carry_is s a b n p false e f l m = sym (lt-leb a b (omega arith))

pub Means-most : (v : ℕ → Bool) (xs ys : List ℕ) → IsTrue (v 0) → length ys ≡ length xs →
    Means v (most xs ys) (λ l. literal_value v l ≡ leb (reads v xs) (reads v ys))
unfolding carry_of
Means-most v xs ys t e =
    Means-bind _ (Means-adder v ys (opposites xs) truth (length-map xs opposite_of ∙ sym e))
    (λ both s. Means-answer _
    (carry_is (reads v both.0) (reads v xs) (reads v ys) (reads v (opposites xs)) (2 ^ length ys)
    (literal_value v both.1)
    (s.1 ∙ ap (λ b. reads v ys + reads v (opposites xs) + bit b) (value-truth v t))
    (rw (← e) at (reads-opposites v xs)) (rw s.0 at (reads-lt v both.0)) (reads-lt v ys)))

pub Means-below : (v : ℕ → Bool) (xs ys : List ℕ) → IsTrue (v 0) → length ys ≡ length xs →
    Means v (below xs ys) (λ l. literal_value v l ≡ ltb (reads v xs) (reads v ys))
unfolding below
Means-below v xs ys t e =
    Means-bind _ (Means-most v ys xs t (sym e))
    (λ carry h. Means-answer _ (literal_value-opposite_of v carry ∙ ap not h ∙ not_most (reads v xs) (reads v ys)))
  where
    not_most : (a b : ℕ) → not (leb b a) ≡ ltb a b
    not_most a b = grind (arith, nat_tests)

-- the gates of the test whether one word is at most another
pub Makes-most : (w : ℕ) (xs ys : List ℕ) (p : Place) → 0 < p.next → IsWord w p.next xs → IsWord w p.next ys →
    MakesGates (most xs ys) (3 * w) IsLiteral p
unfolding carry_of
Makes-most w xs ys p least hx hy =
    Makes-bind _ 0
    (subst
    (λ n. MakesGates (adder ys (opposites xs) truth) (3 * n) (λ vars r. IsWord n vars r.0 × IsLiteral vars r.1) p)
    hy.bits
    (Makes-adder ys (opposites xs) truth p (length-map xs opposite_of ∙ hx.bits ∙ sym hy.bits) hy.inside
    (All-opposites p.next xs hx.inside) least))
    (omega arith)
    (λ both q l h. Makes-answer _ h.1)

pub Makes-below : (w : ℕ) (xs ys : List ℕ) (p : Place) → 0 < p.next → IsWord w p.next xs → IsWord w p.next ys →
    MakesGates (below xs ys) (3 * w) IsLiteral p
unfolding below
Makes-below w xs ys p least hx hy =
    Makes-bind _ 0 (Makes-most w ys xs p least hy hx) (omega arith)
    (λ carry q l h. Makes-answer _ (IsLiteral-opposite q.next carry h))

-- the test is an adder's carry
pub Follows-most : (xs ys : List ℕ) (n m : Net) (both : List ℕ × ℕ) → Follows (adder ys (opposites xs) truth) n both m →
    Follows (most xs ys) n both.1 m
unfolding carry_of
Follows-most xs ys n m both h = Follows-bind _ h Follows-answer

-- one word is below another where the other is not at most the one
pub Follows-below : (xs ys : List ℕ) (n m : Net) (carry : ℕ) → Follows (most ys xs) n carry m →
    Follows (below xs ys) n (opposite_of carry) m
unfolding below
Follows-below xs ys n m carry h = Follows-bind _ h Follows-answer

-- turning the top bits turns the signed order into the unsigned one

below-difference : (a b k : ℕ) → int_lt (pos a -ℤ pos k) (pos b -ℤ pos k) ≡ ltb a b
below-difference a b k = by (ltb a b) refl
  where
    by : (t : Bool) → ltb a b ≡ t → int_lt (pos a -ℤ pos k) (pos b -ℤ pos k) ≡ t
    by true e = let f : true ≡ int_lt (pos a -ℤ pos k) (pos b -ℤ pos k) = omega (arith, ints, ltb-true a b e) in sym f
    by false e =
        let f : false ≡ int_lt (pos a -ℤ pos k) (pos b -ℤ pos k) = omega (arith, ints, ltb-false a b e) in sym f

most-difference : (a b k : ℕ) → int_le (pos a -ℤ pos k) (pos b -ℤ pos k) ≡ leb a b
most-difference a b k = by (leb a b) refl
  where
    by : (t : Bool) → leb a b ≡ t → int_le (pos a -ℤ pos k) (pos b -ℤ pos k) ≡ t
    by true e = let f : true ≡ int_le (pos a -ℤ pos k) (pos b -ℤ pos k) = omega (arith, ints, leb-true a b e) in sym f
    by false e =
        let f : false ≡ int_le (pos a -ℤ pos k) (pos b -ℤ pos k) = omega (arith, ints, leb-false a b e) in sym f

-- a number whose top bit is turned is the signed number, moved up by 2 ^ (w - 1)
signed-is : (w a b p : ℕ) → 1 ≤ w → 2 ^ (w - 1) ≡ p → (a < p → b ≡ a + p) → (p ≤ a → a ≡ b + p) →
    signed w a ≡ pos b -ℤ pos p
signed-is w a b p one e small large = rw (e, whole) (by (ltb a p) refl)
  where
    whole : 2 ^ w ≡ 2 * p
    whole = let f : w ≡ suc (w - 1) = omega arith in rw f (pow-succ' 2 (w - 1) ∙ ap (λ k. 2 * k) e)

    by : (t : Bool) → ltb a p ≡ t → cond {A = ℤ} t (pos a) (pos a -ℤ pos (2 * p)) ≡ pos b -ℤ pos p
    by true l = let f : b ≡ a + p = small (ltb-true a p l) in omega (arith, ints)
    by false l = let f : a ≡ b + p = large (ltb-false a p l) in omega (arith, ints)

signed-sum : (w low top other p : ℕ) → 1 ≤ w → 2 ^ (w - 1) ≡ p → low < p → top + other ≡ 1 →
    signed w (low + p * top) ≡ pos (low + p * other) -ℤ pos p
signed-sum w low zero other p one e l h =
    let f : other ≡ 1 = omega arith in
    rw f (signed-is w (low + p * 0) (low + p * 1) p one e (λ g. omega arith) (λ g. absurd (omega arith)))
signed-sum w low (suc zero) other p one e l h =
    let f : other ≡ 0 = omega arith in
    rw f (signed-is w (low + p * 1) (low + p * 0) p one e (λ g. absurd (omega arith)) (λ g. omega arith))
signed-sum w low (suc (suc top)) other p one e l h = absurd (omega arith)

pub signed-sign_turned : (v : ℕ → Bool) (w : ℕ) (xs : List ℕ) → 1 ≤ w → length xs ≡ w →
    signed w (reads v xs) ≡ pos (reads v (sign_turned xs)) -ℤ pos (2 ^ (w - 1))
signed-sign_turned v w xs one e =
    rw (word, turned) (signed-sum w (reads v low) (reads v high) (reads v (opposites high)) (2 ^ (w - 1)) one refl
    (rw below_top at (reads-lt v low))
    (let h : reads v (opposites high) + reads v high + 1 ≡ 2 ^ 1 = rw one_high at (reads-opposites v high) in
    omega (arith, h)))
  where
    low : List ℕ
    low = take (length xs - 1) xs

    high : List ℕ
    high = drop (length xs - 1) xs

    below_top : length low ≡ w - 1
    below_top = length-take-le (length xs - 1) xs (omega arith) ∙ ap (λ k. k - 1) e

    one_high : length high ≡ 1
    one_high = length-drop (length xs - 1) xs ∙ omega (arith, e, one)

    word : reads v xs ≡ reads v low + 2 ^ (w - 1) * reads v high
    word = ap (reads v) (sym (take-append-drop (length xs - 1) xs)) ∙ reads-append v low high ∙ rw below_top refl

    turned : reads v (sign_turned xs) ≡ reads v low + 2 ^ (w - 1) * reads v (opposites high)
    turned = reads-append v low (opposites high) ∙ rw below_top refl

length-sign_turned : (xs : List ℕ) → length (sign_turned xs) ≡ length xs
length-sign_turned xs =
    length-append (take (length xs - 1) xs) (opposites (drop (length xs - 1) xs))
    ∙ ap (λ k. length (take (length xs - 1) xs) + k) (length-map (drop (length xs - 1) xs) opposite_of)
    ∙ sym (length-append (take (length xs - 1) xs) (drop (length xs - 1) xs))
    ∙ ap length (take-append-drop (length xs - 1) xs)

-- two words with their signs turned are two words
pub AreWordPair-sign_turned : (n : ℕ) (xs ys : List ℕ) → AreWordPair n xs ys → AreWordPair n (sign_turned xs)
    (sign_turned ys)
AreWordPair-sign_turned n xs ys h = record {
  lengths = length-sign_turned ys ∙ h.lengths ∙ sym (length-sign_turned xs);
  first = All-sign_turned n xs h.first;
  second = All-sign_turned n ys h.second;
}

pub IsWord-sign_turned : (w n : ℕ) (xs : List ℕ) → IsWord w n xs → IsWord w n (sign_turned xs)
IsWord-sign_turned w n xs h = record { bits = length-sign_turned xs ∙ h.bits; inside = All-sign_turned n xs h.inside }

pub Means-below_signed : (v : ℕ → Bool) (w : ℕ) (xs ys : List ℕ) → 1 ≤ w → IsTrue (v 0) → length xs ≡ w →
    length ys ≡ w →
    Means v (below (sign_turned xs) (sign_turned ys))
    (λ l. literal_value v l ≡ int_lt (signed w (reads v xs)) (signed w (reads v ys)))
Means-below_signed v w xs ys one t lx ly =
    rw (signed-sign_turned v w xs one lx, signed-sign_turned v w ys one ly, below-difference)
    (Means-below v (sign_turned xs) (sign_turned ys) t (length-sign_turned ys ∙ ly ∙ sym (length-sign_turned xs ∙ lx)))

pub Means-most_signed : (v : ℕ → Bool) (w : ℕ) (xs ys : List ℕ) → 1 ≤ w → IsTrue (v 0) → length xs ≡ w → length ys ≡ w →
    Means v (most (sign_turned xs) (sign_turned ys))
    (λ l. literal_value v l ≡ int_le (signed w (reads v xs)) (signed w (reads v ys)))
Means-most_signed v w xs ys one t lx ly =
    rw (signed-sign_turned v w xs one lx, signed-sign_turned v w ys one ly, most-difference)
    (Means-most v (sign_turned xs) (sign_turned ys) t (length-sign_turned ys ∙ ly ∙ sym (length-sign_turned xs ∙ lx)))

pub Makes-below_signed : (w : ℕ) (xs ys : List ℕ) (p : Place) → 0 < p.next → IsWord w p.next xs → IsWord w p.next ys →
    MakesGates (below (sign_turned xs) (sign_turned ys)) (3 * w) IsLiteral p
Makes-below_signed w xs ys p least hx hy =
    Makes-below w (sign_turned xs) (sign_turned ys) p least (IsWord-sign_turned w p.next xs hx)
    (IsWord-sign_turned w p.next ys hy)

pub Makes-most_signed : (w : ℕ) (xs ys : List ℕ) (p : Place) → 0 < p.next → IsWord w p.next xs → IsWord w p.next ys →
    MakesGates (most (sign_turned xs) (sign_turned ys)) (3 * w) IsLiteral p
Makes-most_signed w xs ys p least hx hy =
    Makes-most w (sign_turned xs) (sign_turned ys) p least (IsWord-sign_turned w p.next xs hx)
    (IsWord-sign_turned w p.next ys hy)

-- the operators

-- the circuit of the unsigned less
pub ult-circuit : (w : ℕ) → 1 ≤ w → IsCircuitOf w Ult
ult-circuit w one = of_two w Ult refl
    (λ v a b la lb. Means-truth (λ t. Means-flagged v w _ _ one t (Means-below v a b t (lb ∙ sym la))))
    (λ p a b least ha hb. Makes-flagged w (3 * w) _ p one least (Makes-below w a b p least ha hb))

-- the circuit of the unsigned at most
pub ule-circuit : (w : ℕ) → 1 ≤ w → IsCircuitOf w Ule
ule-circuit w one = of_two w Ule refl
    (λ v a b la lb. Means-truth (λ t. Means-flagged v w _ _ one t (Means-most v a b t (lb ∙ sym la))))
    (λ p a b least ha hb. Makes-flagged w (3 * w) _ p one least (Makes-most w a b p least ha hb))

-- the circuit of the signed less
pub slt-circuit : (w : ℕ) → 1 ≤ w → IsCircuitOf w Slt
slt-circuit w one = of_two w Slt refl
    (λ v a b la lb. Means-truth (λ t. Means-flagged v w _ _ one t (Means-below_signed v w a b one t la lb)))
    (λ p a b least ha hb. Makes-flagged w (3 * w) _ p one least (Makes-below_signed w a b p least ha hb))

-- the circuit of the signed at most
pub sle-circuit : (w : ℕ) → 1 ≤ w → IsCircuitOf w Sle
sle-circuit w one = of_two w Sle refl
    (λ v a b la lb. Means-truth (λ t. Means-flagged v w _ _ one t (Means-most_signed v w a b one t la lb)))
    (λ p a b least ha hb. Makes-flagged w (3 * w) _ p one least (Makes-most_signed w a b p least ha hb))

-- one of two words, as a test says

Means-either : (v : ℕ → Bool) (w : ℕ) (test : Step ℕ) (holds : Bool) (a b : List ℕ) → length a ≡ w → length b ≡ w →
    Means v test (λ l. literal_value v l ≡ holds) →
    Means v (choice test a b) (ReadsAs v w (cond holds (reads v a) (reads v b)))
Means-either v w test holds a b la lb means =
    subst (λ n. Means v (choice test a b) (ReadsAs v n (cond holds (reads v a) (reads v b)))) la
    (Means-choice v test holds a b (lb ∙ sym la) means)

Makes-either : (w : ℕ) (test : Step ℕ) (a b : List ℕ) (p : Place) → IsWord w p.next a → IsWord w p.next b →
    MakesGates test (3 * w) IsLiteral p → MakesGates (choice test a b) (4 * w) (IsWord w) p
Makes-either w test a b p ha hb makes =
    Makes-count
    (subst (λ n. MakesGates (choice test a b) (3 * w + n) (IsWord n) p) ha.bits
    (Makes-choice test (3 * w) a b p (hb.bits ∙ sym ha.bits) ha.inside hb.inside makes))
    (omega arith)

least-is : (a b : ℕ) → cond (ltb a b) a b ≡ min a b
least-is a b = grind (arith, nat_tests)

greatest-is : (a b : ℕ) → cond (ltb a b) b a ≡ max a b
greatest-is a b = grind (arith, nat_tests)

-- the circuit of the unsigned minimum
pub umin-circuit : (w : ℕ) → 1 ≤ w → IsCircuitOf w Umin
umin-circuit w one = of_two w Umin refl
    (λ v a b la lb. Means-truth (λ t. rw (← least-is (reads v a) (reads v b))
    (Means-either v w _ _ a b la lb (Means-below v a b t (lb ∙ sym la)))))
    (λ p a b least ha hb. Makes-either w _ a b p ha hb (Makes-below w a b p least ha hb))

-- the circuit of the unsigned maximum
pub umax-circuit : (w : ℕ) → 1 ≤ w → IsCircuitOf w Umax
umax-circuit w one = of_two w Umax refl
    (λ v a b la lb. Means-truth (λ t. rw (← greatest-is (reads v a) (reads v b))
    (Means-either v w _ _ b a lb la (Means-below v a b t (lb ∙ sym la)))))
    (λ p a b least ha hb. Makes-either w _ b a p hb ha (Makes-below w a b p least ha hb))

-- the circuit of the signed minimum
pub smin-circuit : (w : ℕ) → 1 ≤ w → IsCircuitOf w Smin
smin-circuit w one = of_two w Smin refl
    (λ v a b la lb. Means-truth (λ t. Means-either v w _ _ a b la lb (Means-below_signed v w a b one t la lb)))
    (λ p a b least ha hb. Makes-either w _ a b p ha hb (Makes-below_signed w a b p least ha hb))

-- the circuit of the signed maximum
pub smax-circuit : (w : ℕ) → 1 ≤ w → IsCircuitOf w Smax
smax-circuit w one = of_two w Smax refl
    (λ v a b la lb. Means-truth (λ t. Means-either v w _ _ b a lb la (Means-below_signed v w a b one t la lb)))
    (λ p a b least ha hb. Makes-either w _ b a p hb ha (Makes-below_signed w a b p least ha hb))
