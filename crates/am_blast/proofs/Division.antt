-- Division: what the quotient and the remainder read, how many gates they take, and how code follows them.
use Rattle.std.proofs.Common.{◌≡◌, ℕ, zero, suc, ◌+◌, ◌-◌, ◌*◌, ◌/◌, ◌%◌, ◌^◌, ◌<◌, ◌≤◌, Bool, true, false, cond, leb}
use Rattle.std.proofs.Common.{List, [], ◌∷◌, ◌++◌, reverse, take, drop, length, length-append, get_or, append-nil}
use Rattle.std.proofs.Common.{append_assoc, refl, sym, ◌∙◌, ap, arith, subst}
use Rattle.std.specs.Prelude.{All, IsTrue, ◌==◌, if◌then◌else◌}
use Rattle.std.proofs.lemmas.Bool.{le-leb, lt-leb, leb-false}
use Rattle.std.proofs.Math.Nat.{pow-succ'}
use Rattle.std.proofs.Math.Dec.{eqb-suc-zero}
use Rattle.std.proofs.Math.Pow.{pow_mono}
use Rattle.std.proofs.lemmas.Nat.{div-mul-add, mod-mul-add}
use Rattle.std.proofs.lemmas.List.{length-map, length-reverse, get_or-reverse, reverse-append, reverse-reverse}
use Rattle.std.proofs.lemmas.List.{drop_all, length-replicate, length-take-le}
use Rattle.std.proofs.lemmas.List.Elements.{All-nil, All-cons, All-append, All-take}
use Rattle.am_gate.specs.Circuit.{Net, Grows, HasRoom, truth, falsity, IsLiteral}
use Rattle.am_gate.specs.Build.{Place, Means, Follows}
use Rattle.am_gate.proofs.Laws.{Means-bind, Means-answer, Means-weaker, Means-truth, Follows-bind, Follows-answer}
use Rattle.am_gate.proofs.Laws.{HasRoom-grown, Makes-bind, Makes-answer, Makes-weaker, Makes-count}
use Rattle.am_gate.specs.Promises.{MakesGates}
use Rattle.am_lit.specs.Literal.{opposite_of}
use Rattle.am_lit.specs.Truth.{literal_value}
use Rattle.am_bv.specs.declared.op.Op.TheVariants.{Udiv, Urem}
use Rattle.am_bv.specs.Operators.{weight_of}
use Rattle.am_blast.specs.declared.bitwise.Gate.TheVariants.{Choose}
use Rattle.am_blast.specs.declared.shift.Direction.TheVariants.{Up}
use Rattle.am_blast.specs.Words.{bit, reads, ReadsAs, IsWord, opposites, zeros}
use Rattle.am_blast.specs.Bitwise.{bitwise}
use Rattle.am_blast.specs.Shifts.{moved}
use Rattle.am_blast.specs.Sums.{adder}
use Rattle.am_blast.specs.Division.{round, division_from, division, quotient, remainder}
use Rattle.am_blast.specs.Promises.{IsCircuitOf}
use Rattle.am_blast.proofs.Arguments.{of_two}
use Rattle.am_blast.proofs.Bits.{Means-choose, Makes-bitwise}
use Rattle.am_blast.proofs.Sums.{Means-adder, Makes-adder}
use Rattle.am_blast.proofs.Shifts.{All-moved, length-moved}
use Rattle.am_blast.proofs.Words.{reads-take_small, bit-le, first_inside, others_inside, drop-from, reads-lt}
use Rattle.am_blast.proofs.Words.{reads-append, reads-zeros, reads-opposites, value-truth, value-falsity, All-later}
use Rattle.am_blast.proofs.Words.{All-zeros, All-opposites}

-- the numbers of one round: x is the remainder with one more bit, y the divisor, n its opposite, s and b the sum
-- and its carry
one_round : (s x y n p : ℕ) (b : Bool) → s + p * bit b ≡ x + n + 1 → n + y + 1 ≡ p → s < p → x < p →
    (b ≡ leb y x) × (cond b s x + bit b * y ≡ x)
one_round s x y n p true e f l m = (sym (le-leb y x (omega arith)), omega arith)
one_round s x y n p false e f l m = (sym (lt-leb y x (omega arith)), omega arith)

-- the bit of the quotient says whether the divisor fits, and then it is taken away
record IsRound (v : ℕ → Bool) (a : ℕ) (r b : List ℕ) (o : ℕ × List ℕ) : Type 0 where
  pub bits : length o.1 ≡ length b
  pub taken : reads v o.1 + bit (literal_value v o.0) * reads v b ≡ bit (literal_value v a) + 2 * reads v r
  pub fits : literal_value v o.0 ≡ leb (reads v b) (bit (literal_value v a) + 2 * reads v r)

Means-round : (v : ℕ → Bool) (a : ℕ) (r b : List ℕ) (w : ℕ) → IsTrue (v 0) → length b ≡ w + 1 → length r ≡ w + 1 →
    reads v r < 2 ^ w →
    Means v (round a r b) (IsRound v a r b)
unfolding round
Means-round v a r b w t lb lr small =
    Means-bind _ (Means-adder v word (opposites b) truth (length-map b opposite_of ∙ sym full))
    (λ sum s. Means-bind _ (Means-choose v sum.1 sum.0 word (sym s.0))
    (λ next m.
    let fact =
    one_round (reads v sum.0) (reads v word) (reads v b) (reads v (opposites b)) (2 ^ length word)
    (literal_value v sum.1)
    (s.1 ∙ ap (λ c. reads v word + reads v (opposites b) + bit c) (value-truth v t))
    (rw full (reads-opposites v b)) (rw s.0 at (reads-lt v sum.0)) (reads-lt v word) in
    let left : reads v next + bit (literal_value v sum.1) * reads v b ≡ reads v word = rw m.value fact.1 in
    Means-answer _ (record {
      bits = m.bits ∙ s.0 ∙ full;
      taken = left ∙ word_reads;
      fits = fact.0 ∙ ap (leb (reads v b)) word_reads;
    })))
  where
    word : List ℕ
    word = moved Up a 1 r

    full : length word ≡ length b
    full = length-moved Up a 1 r ∙ lr ∙ sym lb

    -- the top bit, which is dropped, isn't set
    word_reads : reads v word ≡ bit (literal_value v a) + 2 * reads v r
    word_reads =
        let long : length r ≡ suc w = lr ∙ omega arith in
        ap (λ n. reads v (take n (a ∷ r))) long
        ∙ ap (λ n. bit (literal_value v a) + 2 * n) (reads-take_small v w r (omega (arith, lr)) small)

-- the quotient q and the remainder r of h and y after k bits of the dividend, of which h is made
pub record Divides (h k y q r : ℕ) : Type 0 where
  pub sum : h ≡ q * y + r
  pub small : 0 < y → r < y
  pub zero : y ≡ 0 → q + 1 ≡ 2 ^ k
  pub bound : r ≤ h

-- one bit of the dividend more
Divides-more : (h k y q r a r' : ℕ) (b : Bool) → Divides h k y q r → a ≤ 1 → r' + bit b * y ≡ a + 2 * r →
    b ≡ leb y (a + 2 * r) →
    Divides (a + 2 * h) (suc k) y (bit b + 2 * q) r'
Divides-more h k y q r a r' true d l e f = record {
  sum = omega (arith, e, d.sum);
  small = λ p. omega (arith, d.small p);
  zero = λ z. rw pow-succ' (omega (arith, d.zero z));
  bound = omega (arith, d.bound);
}
Divides-more h k y q r a r' false d l e f = record {
  sum = omega (arith, e, d.sum);
  small = λ p. omega (arith, d.small p, leb-false y (a + 2 * r) (sym f));
  zero = λ z. absurd (omega (arith, leb-false y (a + 2 * r) (sym f)));
  bound = omega (arith, d.bound);
}

-- the words q and r are the quotient and the remainder of the words a and b
pub record IsDivision (v : ℕ → Bool) (a b q r : List ℕ) : Type 0 where
  pub quotient : length q ≡ length a
  pub remainder : length r ≡ length b
  pub divides : Divides (reads v a) (length a) (reads v b) (reads v q) (reads v r)

Means-division_from : (v : ℕ → Bool) (a xs q r b : List ℕ) (w : ℕ) → IsTrue (v 0) → length b ≡ w + 1 →
    length a + length xs ≤ w → IsDivision v a b q r →
    Means v (division_from xs q r b) (λ o. IsDivision v (reverse xs ++ a) b o.0 o.1)
unfolding division_from
Means-division_from v a [] q r b w t lb l d = Means-answer _ d
Means-division_from v a (x ∷ xs) q r b w t lb l d =
    Means-bind _ (Means-round v x r b w t lb (d.remainder ∙ lb) small)
    (λ one o. Means-weaker
    (Means-division_from v (x ∷ a) xs (one.0 ∷ q) one.1 b w t lb (omega arith) (record {
      quotient = ap suc d.quotient;
      remainder = o.bits;
      divides =
          Divides-more (reads v a) (length a) (reads v b) (reads v q) (reads v r) (bit (literal_value v x))
          (reads v one.1) (literal_value v one.0)
          d.divides (bit-le (literal_value v x)) o.taken o.fits;
    }))
    (λ out f. subst (λ c. IsDivision v c b out.0 out.1)
    (sym (rw (reverse-append (x ∷ []) xs) (append_assoc (reverse xs) (x ∷ []) a))) f))
  where
    small : reads v r < 2 ^ w
    small =
        let most : 2 ^ length a ≤ 2 ^ w = pow_mono (omega arith) in omega (arith, d.divides.bound, most, reads-lt v a)

-- the divisor has one bit more, which is false
pub Means-division : (v : ℕ → Bool) (w : ℕ) (xs ys : List ℕ) → IsTrue (v 0) → length xs ≡ w → length ys ≡ w →
    Means v (division xs ys)
    (λ o. (length o.0 ≡ w) × (length o.1 ≡ w + 1) × Divides (reads v xs) w (reads v ys) (reads v o.0) (reads v o.1))
Means-division v w xs ys t lx ly =
    Means-weaker
    (Means-division_from v [] (reverse xs) [] (zeros (length ys + 1)) divisor w t (omega (arith, one_more))
    (rw length-reverse (omega (arith, lx))) (record {
      quotient = refl;
      remainder = length-replicate (length ys + 1) falsity ∙ rw (one_more, ly) refl;
      divides =
          rw (reads-zeros v (length ys + 1) t)
          (record { sum = omega arith; small = λ h. h; zero = λ h. refl; bound = omega arith });
    }))
    (λ o d.
    let all =
    subst (λ a. IsDivision v a divisor o.0 o.1) (append-nil (reverse (reverse xs)) ∙ reverse-reverse xs) d in
    (all.quotient ∙ lx, all.remainder ∙ one_more, rw (lx, same) at all.divides))
  where
    divisor : List ℕ
    divisor = ys ++ falsity ∷ []

    one_more : length divisor ≡ w + 1
    one_more = length-append ys (falsity ∷ []) ∙ rw ly refl

    same : reads v divisor ≡ reads v ys
    same = reads-append v ys (falsity ∷ []) ∙ rw (value-falsity v t) (omega arith)

quotient-is : (h k y q r : ℕ) → Divides h k y q r → q ≡ (if y == 0 then 2 ^ k - 1 else h / y)
quotient-is h k zero q r d = omega (arith, d.zero refl)
quotient-is h k (suc y) q r d =
    sym (rw eqb-suc-zero (ap (λ n. n / suc y) d.sum ∙ div-mul-add q (suc y) r (d.small (omega arith))))

remainder-is : (h k y q r : ℕ) → Divides h k y q r → r ≡ (if y == 0 then h else h % y)
remainder-is h k zero q r d = omega (arith, d.sum)
remainder-is h k (suc y) q r d =
    sym (rw eqb-suc-zero (ap (λ n. n % suc y) d.sum ∙ mod-mul-add q (suc y) r (d.small (omega arith))))

pub Means-quotient : (v : ℕ → Bool) (w : ℕ) (xs ys : List ℕ) → length xs ≡ w → length ys ≡ w →
    Means v (quotient xs ys) (ReadsAs v w (if reads v ys == 0 then 2 ^ w - 1 else reads v xs / reads v ys))
unfolding quotient
Means-quotient v w xs ys lx ly = Means-truth (λ t.
    Means-bind _ (Means-division v w xs ys t lx ly)
    (λ o d. Means-answer _
    (record { bits = d.0; value = quotient-is (reads v xs) w (reads v ys) (reads v o.0) (reads v o.1) d.2 })))

pub Means-remainder : (v : ℕ → Bool) (w : ℕ) (xs ys : List ℕ) → length xs ≡ w → length ys ≡ w →
    Means v (remainder xs ys) (ReadsAs v w (if reads v ys == 0 then reads v xs else reads v xs % reads v ys))
unfolding remainder
Means-remainder v w xs ys lx ly = Means-truth (λ t.
    Means-bind _ (Means-division v w xs ys t lx ly)
    (λ o d. let small : reads v o.1 < 2 ^ length ys = rw ly (omega (arith, d.2.bound, rw lx at (reads-lt v xs))) in
    Means-answer _ (record {
      bits = length-take-le (length ys) o.1 (omega (arith, d.1)) ∙ ly;
      value =
          reads-take_small v (length ys) o.1 (omega (arith, d.1)) small
          ∙ remainder-is (reads v xs) w (reads v ys) (reads v o.0) (reads v o.1) d.2;
    })))

-- the gates of one round of a division
pub Makes-round : (a : ℕ) (r b : List ℕ) (p : Place) → 0 < p.next → length r ≡ length b → IsLiteral p.next a →
    All (IsLiteral p.next) r → All (IsLiteral p.next) b →
    MakesGates (round a r b) (4 * length b) (λ vars o. IsLiteral vars o.0 × IsWord (length b) vars o.1) p
unfolding round
Makes-round a r b p h lr ha hr hb =
    Makes-bind _ (length b)
    (subst
    (λ n. MakesGates (adder word (opposites b) truth) (3 * n) (λ vars s. IsWord n vars s.0 × IsLiteral vars s.1) p)
    full
    (Makes-adder word (opposites b) truth p (length-map b opposite_of ∙ sym full) inside
    (All-opposites p.next b hb) h))
    (omega arith)
    (λ sum q l s. Makes-bind _ 0
    (subst (λ n. MakesGates (bitwise (Choose sum.1) sum.0 word) n (IsWord n) q) s.0.bits
    (Makes-bitwise (Choose sum.1) sum.0 word q (full ∙ sym s.0.bits) s.1 s.0.inside
    (All-later p.next q.next word (omega arith) inside)))
    (omega arith)
    (λ next t k m. Makes-answer _ (omega (arith, s.1, k), m)))
  where
    word : List ℕ
    word = moved Up a 1 r

    full : length word ≡ length b
    full = length-moved Up a 1 r ∙ lr

    inside : All (IsLiteral p.next) word
    inside = All-moved Up p.next a 1 r ha hr

-- what is left of the room for a division, past the round of bit i from the top
pub room-round : (w i k : ℕ) {a b : Net} → i < w → Grows k a b → HasRoom ((w - i) * k) a → HasRoom ((w - (i + 1)) * k) b
room-round w i k {a} l grows room =
    let e : w - i ≡ suc (w - (i + 1)) = omega arith in
    HasRoom-grown ((w - (i + 1)) * k) grows (subst (λ n. HasRoom (n * k) a) e room) (omega arith)

pub Makes-division_from : (xs q r b : List ℕ) (p : Place) → 0 < p.next → length r ≡ length b →
    All (IsLiteral p.next) xs → All (IsLiteral p.next) q → All (IsLiteral p.next) r → All (IsLiteral p.next) b →
    MakesGates (division_from xs q r b) (length xs * (4 * length b))
    (λ vars o. IsWord (length xs + length q) vars o.0 × IsWord (length b) vars o.1) p
unfolding division_from
Makes-division_from [] q r b p h lr hx hq hr hb =
    Makes-count (Makes-answer _ (record { bits = omega arith; inside = hq }, record { bits = lr; inside = hr }))
    (omega arith)
Makes-division_from (x ∷ xs) q r b p h lr hx hq hr hb =
    Makes-bind _ (length xs * (4 * length b)) (Makes-round x r b p h lr (first_inside p.next x xs hx) hr hb)
    (omega arith)
    (λ one s l m. Makes-weaker
    (Makes-division_from xs (one.0 ∷ q) one.1 b s (omega arith) m.1.bits
    (others_inside p.next s.next x xs (omega arith) hx)
    (All-cons (IsLiteral s.next) one.0 q m.0 (All-later p.next s.next q (omega arith) hq)) m.1.inside
    (All-later p.next s.next b (omega arith) hb))
    (λ n o k f. (
      record {
        bits = f.0.bits ∙ (let e : length xs + suc (length q) ≡ suc (length xs) + length q = omega arith in e);
        inside = f.0.inside;
      },
      f.1,
    )))

All-reverse : (n : ℕ) (xs : List ℕ) → All (IsLiteral n) xs → All (IsLiteral n) (reverse xs)
All-reverse n xs h = λ k d l. let inside : k < length xs = rw length-reverse at l in
    rw (get_or-reverse xs k d inside) (h (length xs - 1 - k) d (omega arith))

-- the gates of a division
pub Makes-division : (w : ℕ) (xs ys : List ℕ) (p : Place) → 0 < p.next → IsWord w p.next xs → IsWord w p.next ys →
    MakesGates (division xs ys) (weight_of w Udiv) (λ vars o. IsWord w vars o.0 × IsWord (w + 1) vars o.1) p
Makes-division w xs ys p pos hx hy =
    Makes-count
    (Makes-weaker
    (Makes-division_from (reverse xs) [] (zeros (length ys + 1)) divisor p pos
    (length-replicate (length ys + 1) falsity ∙ rw (one_more, hy.bits) refl)
    (All-reverse p.next xs hx.inside) (All-nil (IsLiteral p.next)) (All-zeros p.next (length ys + 1) pos)
    (All-append (IsLiteral p.next) ys (falsity ∷ []) hy.inside (All-zeros p.next 1 pos)))
    (λ n o k f. (
      record { bits = f.0.bits ∙ rw (length-reverse, hx.bits) (omega arith); inside = f.0.inside },
      record { bits = f.1.bits ∙ one_more; inside = f.1.inside },
    )))
    (rw (length-reverse, hx.bits, one_more) (omega arith))
  where
    divisor : List ℕ
    divisor = ys ++ falsity ∷ []

    one_more : length divisor ≡ w + 1
    one_more = length-append ys (falsity ∷ []) ∙ rw hy.bits refl

pub Makes-quotient : (w : ℕ) (xs ys : List ℕ) (p : Place) → 0 < p.next → IsWord w p.next xs → IsWord w p.next ys →
    MakesGates (quotient xs ys) (weight_of w Udiv) (IsWord w) p
unfolding quotient
Makes-quotient w xs ys p pos hx hy =
    Makes-bind _ 0 (Makes-division w xs ys p pos hx hy) (omega arith) (λ o q l f. Makes-answer _ f.0)

-- the low bits of a word that has one bit more
pub IsWord-low : (w k n : ℕ) (xs : List ℕ) → k ≡ w → IsWord (w + 1) n xs → IsWord w n (take k xs)
IsWord-low w k n xs e h =
    record { bits = length-take-le k xs (omega (arith, h.bits)) ∙ e; inside = All-take (IsLiteral n) k xs h.inside }

pub Makes-remainder : (w : ℕ) (xs ys : List ℕ) (p : Place) → 0 < p.next → IsWord w p.next xs → IsWord w p.next ys →
    MakesGates (remainder xs ys) (weight_of w Urem) (IsWord w) p
unfolding remainder
Makes-remainder w xs ys p pos hx hy =
    Makes-bind _ 0 (Makes-division w xs ys p pos hx hy) (omega arith)
    (λ o q l f. Makes-answer _ (IsWord-low w (length ys) q.next o.1 hy.bits f.1))

-- the circuit of the quotient
pub udiv-circuit : (w : ℕ) → 1 ≤ w → IsCircuitOf w Udiv
udiv-circuit w one =
    of_two w Udiv refl (λ v a b la lb. Means-quotient v w a b la lb)
    (λ p a b pos ha hb. Makes-quotient w a b p pos ha hb)

-- the circuit of the remainder
pub urem-circuit : (w : ℕ) → 1 ≤ w → IsCircuitOf w Urem
urem-circuit w one =
    of_two w Urem refl (λ v a b la lb. Means-remainder v w a b la lb)
    (λ p a b pos ha hb. Makes-remainder w a b p pos ha hb)

-- a round: the difference, and then the choice
pub Follows-round : (a : ℕ) (r b next : List ℕ) (difference : List ℕ × ℕ) (n m end : Net) →
    Follows (adder (moved Up a 1 r) (opposites b) truth) n difference m →
    Follows (bitwise (Choose difference.1) difference.0 (moved Up a 1 r)) m next end →
    Follows (round a r b) n (difference.1, next) end
unfolding round
Follows-round a r b next difference n m end one two = Follows-bind _ one (Follows-bind _ two Follows-answer)

-- one more bit of a division, where the quotient's bits so far were put down from the top
pub Follows-division_from_at : (i x : ℕ) (xs q r b : List ℕ) (one : ℕ × List ℕ) (n m end : Net) (o : List ℕ × List ℕ) →
    i < length xs → x ≡ get_or xs i x → Follows (round x r b) n one m →
    Follows (division_from (drop (i + 1) xs) (reverse (q ++ one.0 ∷ [])) one.1 b) m o end →
    Follows (division_from (drop i xs) (reverse q) r b) n o end
unfolding division_from
Follows-division_from_at i x xs q r b one n m end o l e first rest =
    rw (drop-from i x xs l e) (Follows-bind _ first (rw (reverse-append q (one.0 ∷ [])) at rest))

-- a division with no more rounds makes nothing
pub Follows-division_from_end : (i : ℕ) (xs q r b : List ℕ) (n : Net) → length xs ≤ i →
    Follows (division_from (drop i xs) q r b) n (q, r) n
unfolding division_from
Follows-division_from_end i xs q r b n l = rw (drop_all i xs l) Follows-answer

-- the quotient of a division
pub Follows-quotient : (xs ys : List ℕ) (o : List ℕ × List ℕ) (n m : Net) → Follows (division xs ys) n o m →
    Follows (quotient xs ys) n o.0 m
unfolding quotient
Follows-quotient xs ys o n m h = Follows-bind _ h Follows-answer

-- the remainder of a division
pub Follows-remainder : (xs ys : List ℕ) (o : List ℕ × List ℕ) (n m : Net) → Follows (division xs ys) n o m →
    Follows (remainder xs ys) n (take (length ys) o.1) m
unfolding remainder
Follows-remainder xs ys o n m h = Follows-bind _ h Follows-answer
