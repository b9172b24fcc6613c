-- Sums of words: what they read, how many gates they take, and how code follows them.
use Rattle.std.proofs.Common.{◌≡◌, ℕ, suc, ◌+◌, ◌*◌, ◌%◌, ◌^◌, ◌<◌, ◌≤◌, Bool, true, false, not, cond, List, [], ◌∷◌}
use Rattle.std.proofs.Common.{length, drop, get_or, refl, sym, ◌∙◌, ap, arith, subst}
use Rattle.std.specs.Prelude.{All}
use Rattle.std.specs.Bool.{beq}
use Rattle.std.proofs.Math.Nat.{pow-succ'}
use Rattle.std.proofs.lemmas.Nat.{mod-mul-add}
use Rattle.std.proofs.lemmas.List.{drop_all, length-map, length-replicate}
use Rattle.std.proofs.lemmas.List.Elements.{All-nil, All-cons}
use Rattle.am_gate.specs.Circuit.{Net, truth, falsity, IsLiteral}
use Rattle.am_gate.specs.Build.{Place, Means, Follows}
use Rattle.am_gate.proofs.Laws.{Means-bind, Means-answer, Means-xor, Means-mux, Means-truth, Follows-bind}
use Rattle.am_gate.proofs.Laws.{Follows-answer, Makes-bind, Makes-answer, Makes-xor, Makes-mux}
use Rattle.am_gate.specs.Promises.{MakesGates}
use Rattle.am_lit.specs.Literal.{opposite_of}
use Rattle.am_lit.specs.Truth.{literal_value}
use Rattle.am_bv.specs.declared.op.Op.TheVariants.{Neg, Add, Sub}
use Rattle.am_blast.specs.Words.{bit, reads, ReadsAs, IsWord, opposites, zeros}
use Rattle.am_blast.specs.Sums.{full_adder, adder, sum_of}
use Rattle.am_blast.specs.Promises.{IsCircuitOf}
use Rattle.am_blast.proofs.Words.{first_inside, others_inside, drop-from, reads-lt, reads-opposites, reads-zeros}
use Rattle.am_blast.proofs.Words.{value-truth, value-falsity, IsWord-opposites, IsWord-zeros}
use Rattle.am_blast.proofs.Arguments.{of_one, of_two}

pub Means-full_adder : (v : ℕ → Bool) (a b c : ℕ) →
    Means v (full_adder a b c) (λ r. bit (literal_value v r.0) + 2 * bit (literal_value v r.1)
    ≡ bit (literal_value v a) + bit (literal_value v b) + bit (literal_value v c))
unfolding full_adder
Means-full_adder v a b c =
    Means-bind _ (Means-xor v a b)
    (λ half h. Means-bind _ (Means-xor v half c)
    (λ sum s. Means-bind _ (Means-mux v half c a)
    (λ carry k. Means-answer _ (rw (s, k, h) (bits (literal_value v a) (literal_value v b) (literal_value v c))))))
  where
    bits : (x y z : Bool) →
        bit (not (beq (not (beq x y)) z)) + 2 * bit (cond (not (beq x y)) z x) ≡ bit x + bit y + bit z
    bits true true true = refl
    bits true true false = refl
    bits true false true = refl
    bits true false false = refl
    bits false true true = refl
    bits false true false = refl
    bits false false true = refl
    bits false false false = refl

one_bit : (s o a b c r p k x y : ℕ) → s + 2 * o ≡ a + b + c → r + p * k ≡ x + y + o →
    s + 2 * r + (2 * p) * k ≡ a + 2 * x + (b + 2 * y) + c
one_bit s o a b c r p k x y e h = omega arith

-- the sum, with the last carry as one more bit
pub Means-adder : (v : ℕ → Bool) (xs ys : List ℕ) (c : ℕ) → length ys ≡ length xs →
    Means v (adder xs ys c) (λ r. (length r.0 ≡ length xs)
    × (reads v r.0 + 2 ^ length xs * bit (literal_value v r.1) ≡ reads v xs + reads v ys + bit (literal_value v c)))
unfolding adder
Means-adder v [] [] c e = Means-answer _ (refl, omega arith)
Means-adder v [] (y ∷ ys) c e = absurd (omega arith)
Means-adder v (x ∷ xs) [] c e = absurd (omega arith)
Means-adder v (x ∷ xs) (y ∷ ys) c e =
    Means-bind _ (Means-full_adder v x y c)
    (λ one o. Means-bind _ (Means-adder v xs ys one.1 (omega arith))
    (λ rest r. Means-answer _ (
      ap suc r.0,
      rw pow-succ'
          (one_bit _ _ _ _ _ (reads v rest.0) (2 ^ length xs) (bit (literal_value v rest.1)) (reads v xs) (reads v ys)
          o r.1),
    )))

-- the gates of a full adder
pub Makes-full_adder : (a b c : ℕ) (p : Place) → IsLiteral p.next a → IsLiteral p.next b → IsLiteral p.next c →
    MakesGates (full_adder a b c) 3 (λ vars r. IsLiteral vars r.0 × IsLiteral vars r.1) p
unfolding full_adder
Makes-full_adder a b c p ha hb hc =
    Makes-bind _ 2 (Makes-xor a b p ha hb) refl
    (λ half q l h. Makes-bind _ 1 (Makes-xor half c q h (omega arith)) refl
    (λ sum r m s. Makes-bind _ 0 (Makes-mux half c a r (omega arith) (omega arith) (omega arith)) refl
    (λ carry t n k. Makes-answer _ (omega arith, k))))

-- the gates of an adder
pub Makes-adder : (xs ys : List ℕ) (c : ℕ) (p : Place) → length ys ≡ length xs → All (IsLiteral p.next) xs →
    All (IsLiteral p.next) ys → IsLiteral p.next c →
    MakesGates (adder xs ys c) (3 * length xs) (λ vars r. IsWord (length xs) vars r.0 × IsLiteral vars r.1) p
unfolding adder
Makes-adder [] [] c p e hx hy hc = Makes-answer _ (record { bits = refl; inside = All-nil (IsLiteral p.next) }, hc)
Makes-adder [] (y ∷ ys) c p e hx hy hc = absurd (omega arith)
Makes-adder (x ∷ xs) [] c p e hx hy hc = absurd (omega arith)
Makes-adder (x ∷ xs) (y ∷ ys) c p e hx hy hc =
    Makes-bind _ (3 * length xs)
    (Makes-full_adder x y c p (first_inside p.next x xs hx) (first_inside p.next y ys hy) hc) (omega arith)
    (λ one q l h. Makes-bind _ 0
    (Makes-adder xs ys one.1 q (omega arith) (others_inside p.next q.next x xs (omega arith) hx)
    (others_inside p.next q.next y ys (omega arith) hy) h.1)
    (omega arith)
    (λ rest r m k. Makes-answer _ (
      record {
        bits = ap suc k.0.bits;
        inside = All-cons (IsLiteral r.next) one.0 rest.0 (omega (arith, h.0, m)) k.0.inside;
      },
      k.1,
    )))

-- one more bit of a sum
pub Follows-adder_at : (i a b c : ℕ) (xs ys : List ℕ) (n m end : Net) (one : ℕ × ℕ) (r : List ℕ × ℕ) →
    i < length xs → i < length ys → a ≡ get_or xs i a → b ≡ get_or ys i b →
    Follows (full_adder a b c) n one m → Follows (adder (drop (i + 1) xs) (drop (i + 1) ys) one.1) m r end →
    Follows (adder (drop i xs) (drop i ys) c) n (one.0 ∷ r.0, r.1) end
unfolding adder
Follows-adder_at i a b c xs ys n m end one r lx ly ea eb h more =
    rw (drop-from i a xs lx ea, drop-from i b ys ly eb)
    (Follows-bind _ h (Follows-bind _ more Follows-answer))

-- an adder of no more bits makes nothing
pub Follows-adder_end : (i c : ℕ) (xs ys : List ℕ) (n : Net) → length xs ≤ i →
    Follows (adder (drop i xs) (drop i ys) c) n ([], c) n
unfolding adder
Follows-adder_end i c xs ys n l = rw (drop_all i xs l) Follows-answer

-- the sum without its last carry

remainder : (r p i x : ℕ) → r + p * i ≡ x → r < p → r ≡ x % p
remainder r p i x e h = sym (ap (λ t. t % p) (let f : x ≡ i * p + r = omega arith in f) ∙ mod-mul-add i p r h)

-- the sum of two words reads as the sum
pub Means-sum_of : (v : ℕ → Bool) (w : ℕ) (xs ys : List ℕ) (c n : ℕ) → length xs ≡ w → length ys ≡ w →
    reads v xs + reads v ys + bit (literal_value v c) ≡ n → Means v (sum_of xs ys c) (ReadsAs v w (n % 2 ^ w))
unfolding sum_of
Means-sum_of v w xs ys c n lx ly e =
    Means-bind _ (Means-adder v xs ys c (ly ∙ sym lx))
    (λ both s. Means-answer _ (record {
      bits = s.0 ∙ lx;
      value =
          remainder (reads v both.0) (2 ^ w) (bit (literal_value v both.1)) n (rw lx at s.1 ∙ e)
          (rw (s.0 ∙ lx) at (reads-lt v both.0));
    }))

-- the gates of a sum
pub Makes-sum_of : (w : ℕ) (xs ys : List ℕ) (c : ℕ) (p : Place) → IsWord w p.next xs → IsWord w p.next ys →
    IsLiteral p.next c →
    MakesGates (sum_of xs ys c) (3 * w) (IsWord w) p
unfolding sum_of
Makes-sum_of w xs ys c p hx hy hc =
    Makes-bind _ 0
    (subst (λ n. MakesGates (adder xs ys c) (3 * n) (λ vars r. IsWord n vars r.0 × IsLiteral vars r.1) p) hx.bits
    (Makes-adder xs ys c p (hy.bits ∙ sym hx.bits) hx.inside hy.inside hc))
    (omega arith)
    (λ both q l h. Makes-answer _ h.0)

-- a sum is an adder's word without its carry
pub Follows-sum_of : (xs ys : List ℕ) (c : ℕ) (n m : Net) (both : List ℕ × ℕ) → Follows (adder xs ys c) n both m →
    Follows (sum_of xs ys c) n both.0 m
unfolding sum_of
Follows-sum_of xs ys c n m both h = Follows-bind _ h Follows-answer

-- the operators

-- the circuit of addition
pub add-circuit : (w : ℕ) → 1 ≤ w → IsCircuitOf w Add
add-circuit w one = of_two w Add refl
    (λ v a b la lb. Means-truth (λ t.
    Means-sum_of v w a b falsity _ la lb (rw (value-falsity v t) (omega arith))))
    (λ p a b pos ha hb. Makes-sum_of w a b falsity p ha hb pos)

-- the circuit of subtraction
pub sub-circuit : (w : ℕ) → 1 ≤ w → IsCircuitOf w Sub
sub-circuit w one = of_two w Sub refl
    (λ v a b la lb. Means-truth (λ t.
    Means-sum_of v w a (opposites b) truth _ la (length-map b opposite_of ∙ lb)
    (rw (value-truth v t) (omega (arith, rw lb at (reads-opposites v b))))))
    (λ p a b pos ha hb. Makes-sum_of w a (opposites b) truth p ha (IsWord-opposites w p.next b hb) pos)

-- the circuit of negation
pub neg-circuit : (w : ℕ) → 1 ≤ w → IsCircuitOf w Neg
neg-circuit w one = of_one w Neg refl
    (λ v a la. Means-truth (λ t.
    Means-sum_of v w (opposites a) (zeros w) truth _ (length-map a opposite_of ∙ la) (length-replicate w falsity)
    (rw (value-truth v t, reads-zeros v w t) (omega (arith, rw la at (reads-opposites v a))))))
    (λ p a pos ha. Makes-sum_of w (opposites a) (zeros w) truth p (IsWord-opposites w p.next a ha)
    (IsWord-zeros w p.next pos) pos)
