-- Products of words: what they read, how many gates they take, and how code follows them.
use Rattle.std.proofs.Common.{◌≡◌, ℕ, suc, ◌+◌, ◌-◌, ◌*◌, ◌/◌, ◌%◌, ◌^◌, ◌<◌, ◌≤◌, Bool, true, false, List, [], ◌∷◌}
use Rattle.std.proofs.Common.{◌++◌, ◌&&◌, take, drop, length, length-append, length-take, get_or, add-one, refl, sym}
use Rattle.std.proofs.Common.{◌∙◌, ap, arith, subst}
use Rattle.std.specs.Prelude.{All, IsTrue}
use Rattle.std.proofs.Math.Nat.{pow-succ', mod-add-mod, add-mul-mod_self_left, mod-eq_of_lt}
use Rattle.std.proofs.lemmas.Nat.{pow-add}
use Rattle.std.proofs.lemmas.List.{drop_all, length-replicate, length-take-le, take-append-drop}
use Rattle.std.proofs.lemmas.List.Elements.{All-nil, All-cons, All-append, All-take}
use Rattle.am_gate.specs.Circuit.{Event.And, Net, Grows, HasRoom, falsity, IsLiteral}
use Rattle.am_gate.specs.Build.{Place, ask, Means, Follows}
use Rattle.am_gate.proofs.Laws.{Means-bind, Means-answer, Means-and, Means-weaker, Means-truth, Follows-bind}
use Rattle.am_gate.proofs.Laws.{Follows-answer, HasRoom-grown, Makes-bind, Makes-answer, Makes-and, Makes-count}
use Rattle.am_gate.specs.Promises.{MakesGates}
use Rattle.am_lit.specs.Truth.{literal_value}
use Rattle.am_bv.specs.declared.op.Op.TheVariants.{Mul}
use Rattle.am_bv.specs.Operators.{weight_of}
use Rattle.am_blast.specs.Words.{bit, reads, ReadsAs, IsWord, zeros}
use Rattle.am_blast.specs.Sums.{sum_of}
use Rattle.am_blast.specs.Products.{each_and, product_from, product}
use Rattle.am_blast.specs.Promises.{IsCircuitOf}
use Rattle.am_blast.proofs.Arguments.{of_two}
use Rattle.am_blast.proofs.Sums.{Means-sum_of, Makes-sum_of}
use Rattle.am_blast.proofs.Words.{first_inside, others_inside, drop-from, reads-lt, reads-append, reads-zeros}
use Rattle.am_blast.proofs.Words.{value-falsity, All-zeros, IsWord-zeros, IsWord-later}

pub Means-each_and : (v : ℕ → Bool) (b : ℕ) (xs : List ℕ) →
    Means v (each_and b xs) (ReadsAs v (length xs) (bit (literal_value v b) * reads v xs))
unfolding each_and
Means-each_and v b [] = Means-answer _ (record { bits = refl; value = omega arith })
Means-each_and v b (x ∷ xs) =
    Means-bind _ (Means-and v b x)
    (λ first f. Means-bind _ (Means-each_and v b xs)
    (λ rest r. Means-answer _ (record {
      bits = ap suc r.bits;
      value = rw (f, r.value) (times (literal_value v b) (literal_value v x) (reads v xs));
    })))
  where
    times : (p q : Bool) (n : ℕ) → bit (p && q) + 2 * (bit p * n) ≡ bit p * (bit q + 2 * n)
    times true q n = omega arith
    times false q n = omega arith

-- the gates of a row of a product
pub Makes-each_and : (b : ℕ) (xs : List ℕ) (p : Place) → IsLiteral p.next b → All (IsLiteral p.next) xs →
    MakesGates (each_and b xs) (length xs) (IsWord (length xs)) p
unfolding each_and
Makes-each_and b [] p hb hx = Makes-answer _ (record { bits = refl; inside = All-nil (IsLiteral p.next) })
Makes-each_and b (x ∷ xs) p hb hx =
    Makes-bind _ (length xs) (Makes-and b x p hb (first_inside p.next x xs hx)) (omega arith)
    (λ first q l f. Makes-bind _ 0
    (Makes-each_and b xs q (omega arith) (others_inside p.next q.next x xs (omega arith) hx)) (omega arith)
    (λ rest r k s. Makes-answer _ (record {
      bits = ap suc s.bits;
      inside = All-cons (IsLiteral r.next) first rest (omega (arith, f, k)) s.inside;
    })))

-- one row more, modulo p: low is what stays of the word x, and high what is dropped
one_row : (p s acc row low high x q m b ys : ℕ) → s ≡ (acc + row) % p → row ≡ q * (b * low) → x ≡ low + m * high →
    q * m ≡ p →
    (s + 2 * q * x * ys) % p ≡ (acc + q * x * (b + 2 * ys)) % p
one_row p s acc row low high x q m b ys e f g h =
    let key : q * x * b ≡ q * (b * low) + p * (b * high) = rw (g, ← h) (spread q low m high b) in
    let whole : acc + q * x * (b + 2 * ys) ≡ acc + row + 2 * q * x * ys + p * (b * high) = omega arith in
    ap (λ n. (n + 2 * q * x * ys) % p) e ∙ mod-add-mod (acc + row) p (2 * q * x * ys)
    ∙ sym (ap (λ n. n % p) whole ∙ add-mul-mod_self_left (acc + row + 2 * q * x * ys) p (b * high))
  where
    spread : (q low m high b : ℕ) → q * (low + m * high) * b ≡ q * (b * low) + q * m * (b * high)
    spread q low m high b = omega arith

-- a word that is moved up by i bits keeps as many low bits of it as there is room for
pub row-length : (w i : ℕ) (xs row : List ℕ) → length xs ≡ w → i ≤ w → length row ≡ length (take (length xs - i) xs) →
    length (zeros i ++ row) ≡ w
row-length w i xs row lx l e = simp (length-append, length-replicate, e, length-take) (omega arith)

pub Means-product_from : (v : ℕ → Bool) (w i : ℕ) (acc xs ys : List ℕ) → IsTrue (v 0) → length acc ≡ w → length xs ≡ w →
    i + length ys ≡ w →
    Means v (product_from i acc xs ys) (ReadsAs v w ((reads v acc + 2 ^ i * reads v xs * reads v ys) % 2 ^ w))
unfolding product_from
Means-product_from v w i acc xs [] t la lx ly = Means-answer _ (record {
  bits = la;
  value =
      let same : reads v acc + 2 ^ i * reads v xs * 0 ≡ reads v acc = omega arith in
      rw same (sym (mod-eq_of_lt (rw la at (reads-lt v acc))));
})
Means-product_from v w i acc xs (y ∷ ys) t la lx ly =
    Means-bind _ (Means-each_and v y low)
    (λ row r. Means-bind _
    (Means-sum_of v w acc (zeros i ++ row) falsity (reads v acc + reads v (zeros i ++ row)) la
    (row-length w i xs row lx (omega arith) r.bits)
    (rw (value-falsity v t) (omega arith)))
    (λ sum s. Means-weaker (Means-product_from v w (i + 1) sum xs ys t s.bits lx (omega arith))
    (λ out o. record {
      bits = o.bits;
      value = rw (add-one, pow-succ') at o.value
          ∙ one_row (2 ^ w) (reads v sum) (reads v acc) (reads v (zeros i ++ row)) (reads v low) (reads v high)
          (reads v xs)
          (2 ^ i) (2 ^ (length xs - i)) (bit (literal_value v y)) (reads v ys) s.value (row_is row r.value)
          parts powers;
    })))
  where
    low : List ℕ
    low = take (length xs - i) xs

    high : List ℕ
    high = drop (length xs - i) xs

    row_is : (row : List ℕ) → reads v row ≡ bit (literal_value v y) * reads v low →
        reads v (zeros i ++ row) ≡ 2 ^ i * (bit (literal_value v y) * reads v low)
    row_is row e = rw (reads-append, reads-zeros v i t, length-replicate, e) (omega arith)

    parts : reads v xs ≡ reads v low + 2 ^ (length xs - i) * reads v high
    parts = ap (reads v) (sym (take-append-drop (length xs - i) xs)) ∙ reads-append v low high
        ∙ rw (length-take-le (length xs - i) xs (omega arith)) refl

    powers : 2 ^ i * 2 ^ (length xs - i) ≡ 2 ^ w
    powers = sym (pow-add 2 i (length xs - i)) ∙ (let e : i + (length xs - i) ≡ w = omega arith in rw e refl)

-- the gates of the rows and sums of n bits over w bits, where the rows have n, n - 1, .. 1 gates
abbrev pub row_gates : ℕ → ℕ → ℕ
row_gates w n = n * (n + 1) / 2 + 3 * w * n

pub row_gates-suc : (w n : ℕ) → row_gates w (suc n) ≡ suc n + (3 * w + row_gates w n)
row_gates-suc w n = let e : suc n * (suc n + 1) ≡ n * (n + 1) + 2 * suc n = omega arith in rw e (omega arith)

-- what is left of the room for a product, past the row of bit i
pub room-row : (w i k : ℕ) {a b : Net} → i < w → k ≡ w - i → Grows k a b → HasRoom (row_gates w (w - i)) a →
    HasRoom (3 * w + row_gates w (w - (i + 1))) b
room-row w i k {a} l e grows room =
    let f : w - i ≡ suc (w - (i + 1)) = omega arith in
    let g : row_gates w (w - i) ≡ suc (w - (i + 1)) + (3 * w + row_gates w (w - (i + 1))) =
    ap (row_gates w) f ∙ row_gates-suc w (w - (i + 1)) in
    HasRoom-grown (3 * w + row_gates w (w - (i + 1))) grows (subst (λ n. HasRoom n a) g room) (omega arith)

pub Makes-product_from : (w i : ℕ) (acc xs ys : List ℕ) (p : Place) → 0 < p.next → i + length ys ≡ w →
    IsWord w p.next acc → IsWord w p.next xs → All (IsLiteral p.next) ys →
    MakesGates (product_from i acc xs ys) (row_gates w (length ys)) (IsWord w) p
unfolding product_from
Makes-product_from w i acc xs [] p pos e ha hx hy = Makes-count (Makes-answer _ ha) (omega arith)
Makes-product_from w i acc xs (y ∷ ys) p pos e ha hx hy =
    Makes-bind _ (3 * w + row_gates w (length ys))
    (Makes-each_and y low p (first_inside p.next y ys hy) (All-take (IsLiteral p.next) (length xs - i) xs hx.inside))
    (rw (row_gates-suc, low_length) refl)
    (λ row q l r. Makes-bind _ (row_gates w (length ys))
    (Makes-sum_of w acc (zeros i ++ row) falsity q (IsWord-later w p.next q.next acc (omega arith) ha)
    (record {
      bits = row-length w i xs row hx.bits (omega arith) r.bits;
      inside = All-append (IsLiteral q.next) (zeros i) row (All-zeros q.next i (omega arith)) r.inside;
    })
    (omega arith))
    refl
    (λ sum s k m. Makes-product_from w (i + 1) sum xs ys s (omega arith) (omega arith) m
    (IsWord-later w p.next s.next xs (omega arith) hx) (others_inside p.next s.next y ys (omega arith) hy)))
  where
    low : List ℕ
    low = take (length xs - i) xs

    low_length : length low ≡ suc (length ys)
    low_length =
        length-take-le (length xs - i) xs (omega arith)
        ∙ (let f : length xs - i ≡ suc (length ys) = omega (arith, hx.bits) in f)

-- the gates of a product
pub Makes-product : (w : ℕ) (xs ys : List ℕ) (p : Place) → 0 < p.next → IsWord w p.next xs → IsWord w p.next ys →
    MakesGates (product xs ys) (weight_of w Mul) (IsWord w) p
Makes-product w xs ys p pos hx hy =
    subst (λ n. MakesGates (product xs ys) (row_gates w n) (IsWord w) p) hy.bits
    (Makes-product_from w 0 (zeros (length xs)) xs ys p pos (omega (arith, hy.bits))
    (rw hx.bits (IsWord-zeros w p.next pos)) hx hy.inside)

-- the circuit of multiplication
pub mul-circuit : (w : ℕ) → 1 ≤ w → IsCircuitOf w Mul
mul-circuit w one = of_two w Mul refl
    (λ v a b la lb. Means-truth (λ t.
    Means-weaker
    (Means-product_from v w 0 (zeros (length a)) a b t (length-replicate (length a) falsity ∙ la) la
    (omega (arith, lb)))
    (λ r h. record {
      bits = h.bits;
      value = rw (reads-zeros v (length a) t) at h.value ∙ ap (λ n. n % 2 ^ w) (omega arith);
    })))
    (λ p a b pos ha hb. Makes-product w a b p pos ha hb)

-- one more row of a product
pub Follows-product_from_at : (i y : ℕ) (acc xs ys row : List ℕ) (next : List ℕ) (n m k end : Net) (r : List ℕ) →
    i < length ys → y ≡ get_or ys i y →
    Follows (each_and y (take (length xs - i) xs)) n row m → Follows (sum_of acc (zeros i ++ row) falsity) m next k →
    Follows (product_from (i + 1) next xs (drop (i + 1) ys)) k r end →
    Follows (product_from i acc xs (drop i ys)) n r end
unfolding product_from
Follows-product_from_at i y acc xs ys row next n m k end r l e one two rest =
    rw (drop-from i y ys l e) (Follows-bind _ one (Follows-bind _ two rest))

-- a product with no more rows makes nothing
pub Follows-product_from_end : (i : ℕ) (acc xs ys : List ℕ) (n : Net) → length ys ≤ i →
    Follows (product_from i acc xs (drop i ys)) n acc n
unfolding product_from
Follows-product_from_end i acc xs ys n l = rw (drop_all i ys l) Follows-answer

-- one more gate of a row
pub Follows-each_and_at : (i b x : ℕ) (xs : List ℕ) (n m end : Net) (g : ℕ) (rest : List ℕ) → i < length xs →
    x ≡ get_or xs i x →
    Follows (ask (And b x)) n g m → Follows (each_and b (drop (i + 1) xs)) m rest end →
    Follows (each_and b (drop i xs)) n (g ∷ rest) end
unfolding each_and
Follows-each_and_at i b x xs n m end g rest l e one more =
    rw (drop-from i x xs l e) (Follows-bind _ one (Follows-bind _ more Follows-answer))

-- a row of no more bits makes nothing
pub Follows-each_and_end : (i b : ℕ) (xs : List ℕ) (n : Net) → length xs ≤ i → Follows (each_and b (drop i xs)) n [] n
unfolding each_and
Follows-each_and_end i b xs n l = rw (drop_all i xs l) Follows-answer
