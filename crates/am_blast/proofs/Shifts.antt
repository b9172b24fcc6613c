-- Shifts by a word of literals, one stage for each of its bits.
use Rattle.std.proofs.Common.{◌≡◌, ℕ, zero, suc, ◌+◌, ◌-◌, ◌*◌, ◌/◌, ◌%◌, ◌^◌, ◌<◌, ◌≤◌, Bool, true, false, not, cond}
use Rattle.std.proofs.Common.{List, [], ◌∷◌, ◌++◌, map, replicate, take, drop, drop-cons, get_or, length, length-append}
use Rattle.std.proofs.Common.{length-take, refl, sym, ◌∙◌, ap, arith, subst, nat_lt}
use Rattle.std.specs.Prelude.{All}
use Rattle.std.proofs.Math.Nat.{mod-eq_of_lt, div-div-eq-div-mul, div-eq_of_lt, div-one, mul-mod_left, div-le_self}
use Rattle.std.proofs.Math.Nat.{pow-le-pow_right}
use Rattle.std.proofs.lemmas.Nat.{pow-add, pow_pos, mul-mod_first}
use Rattle.std.proofs.lemmas.List.{drop_all, length-drop, length-replicate, take-append-drop, drop-map, map-append}
use Rattle.std.proofs.lemmas.List.Elements.{All-append, All-replicate, All-take, All-drop}
use Rattle.am_lit.proofs.Laws.{literal_value-opposite_of}
use Rattle.am_gate.specs.Circuit.{Net, falsity, IsLiteral}
use Rattle.am_gate.specs.Build.{Place, Means, Follows}
use Rattle.am_gate.proofs.Laws.{Means-bind, Means-answer, Means-weaker, Means-truth, Follows-bind, Follows-answer}
use Rattle.am_gate.proofs.Laws.{Makes-bind, Makes-answer, Makes-count}
use Rattle.am_gate.specs.Promises.{MakesGates}
use Rattle.am_lit.specs.Literal.{opposite_of}
use Rattle.am_lit.specs.Truth.{literal_value}
use Rattle.std.proofs.lemmas.Bool.{ltb-false, le-ltb, lt-ltb}
use Rattle.am_bv.specs.Words.{complement}
use Rattle.am_bv.specs.Operators.{shl_of, lshr_of, ashr_of}
use Rattle.am_bv.specs.declared.op.Op.TheVariants.{Shl, Lshr, Ashr}
use Rattle.am_blast.specs.declared.bitwise.Gate.TheVariants.{Choose}
use Rattle.am_blast.specs.declared.shift.Direction.{Direction}
use Rattle.am_blast.specs.declared.shift.Direction.TheVariants.{Up, Down}
use Rattle.am_blast.specs.Words.{bit, reads, ReadsAs, IsWord, opposites}
use Rattle.am_blast.specs.Bitwise.{bitwise}
use Rattle.am_blast.specs.Shifts.{moved, top, shifted, shifted_from}
use Rattle.am_blast.specs.Promises.{IsCircuitOf}
use Rattle.am_blast.proofs.Arguments.{of_two}
use Rattle.am_blast.proofs.Words.{reads-take, reads-drop, reads-lt, reads-append, reads-opposites, complement-reads}
use Rattle.am_blast.proofs.Words.{first_inside, others_inside, drop-from, value-falsity}
use Rattle.am_blast.proofs.Bits.{Means-choose, Makes-bitwise}

reads-off : (v : ℕ → Bool) (fill n : ℕ) → literal_value v fill ≡ false → reads v (replicate n fill) ≡ 0
reads-off v fill zero off = refl
reads-off v fill (suc n) off = rw (reads-off v fill n off, off) refl

length-moved_up : (fill n : ℕ) (word : List ℕ) → length (moved Up fill n word) ≡ length word
length-moved_up fill n word = simp (length-take, length-append, length-replicate) (omega arith)

length-moved_down : (fill n : ℕ) (word : List ℕ) → length (moved Down fill n word) ≡ length word
length-moved_down fill n word = simp (length-drop, length-append, length-replicate) (omega arith)

-- a moved word is as long as the word
pub length-moved : (direction : Direction) (fill n : ℕ) (word : List ℕ) →
    length (moved direction fill n word) ≡ length word
length-moved Up fill n word = length-moved_up fill n word
length-moved Down fill n word = length-moved_down fill n word

-- moved towards the top, a word is multiplied, and moved towards bit 0 divided
reads-moved_up : (v : ℕ → Bool) (fill n : ℕ) (word : List ℕ) → literal_value v fill ≡ false →
    reads v (moved Up fill n word) ≡ (reads v word * 2 ^ n) % 2 ^ length word
reads-moved_up v fill n word off =
    let within : length word ≤ length (replicate n fill ++ word) =
    simp (length-append, length-replicate) (omega arith) in
    let whole : reads v (replicate n fill ++ word) ≡ reads v word * 2 ^ n =
    reads-append v (replicate n fill) word ∙ rw (reads-off v fill n off, length-replicate) (omega arith) in
    reads-take v (length word) (replicate n fill ++ word) within ∙ ap (λ k. k % 2 ^ length word) whole

reads-moved_down : (v : ℕ → Bool) (fill n : ℕ) (word : List ℕ) → literal_value v fill ≡ false →
    reads v (moved Down fill n word) ≡ reads v word / 2 ^ n
reads-moved_down v fill n word off =
    let within : n ≤ length (word ++ replicate n fill) = simp (length-append, length-replicate) (omega arith) in
    let whole : reads v (word ++ replicate n fill) ≡ reads v word =
    reads-append v word (replicate n fill) ∙ rw (reads-off v fill n off) (omega arith) in
    reads-drop v n (word ++ replicate n fill) within ∙ ap (λ k. k / 2 ^ n) whole

map-replicate : (f : ℕ → ℕ) (n x : ℕ) → map f (replicate n x) ≡ replicate n (f x)
map-replicate f zero x = refl
map-replicate f (suc n) x = ap (λ xs. f x ∷ xs) (map-replicate f n x)

opposites-moved_down : (fill n : ℕ) (word : List ℕ) →
    opposites (moved Down fill n word) ≡ moved Down (opposite_of fill) n (opposites word)
opposites-moved_down fill n word =
    sym (drop-map opposite_of n (word ++ replicate n fill))
    ∙ ap (λ xs. drop n xs)
    (map-append opposite_of word (replicate n fill)
    ∙ ap (λ xs. opposites word ++ xs) (map-replicate opposite_of n fill))

-- where the literal that is moved in is true, it is the complement that is divided
reads-moved_down-on : (v : ℕ → Bool) (fill n : ℕ) (word : List ℕ) → literal_value v fill ≡ true →
    reads v (moved Down fill n word) ≡ complement (length word) (complement (length word) (reads v word) / 2 ^ n)
reads-moved_down-on v fill n word on =
    let off : literal_value v (opposite_of fill) ≡ false = literal_value-opposite_of v fill ∙ ap not on in
    let turned : reads v (opposites (moved Down fill n word)) ≡ complement (length word) (reads v word) / 2 ^ n =
    ap (reads v) (opposites-moved_down fill n word) ∙ reads-moved_down v (opposite_of fill) n (opposites word) off
    ∙ ap (λ k. k / 2 ^ n) (complement-reads v word) in
    let whole = reads-opposites v (moved Down fill n word) in
    let long : 2 ^ length (moved Down fill n word) ≡ 2 ^ length word =
    ap (λ k. 2 ^ k) (length-moved_down fill n word) in
    omega (arith, turned, whole, long)

-- a way to move words by n bits that moves by the sum of both where it moves twice
pub record IsMove (v : ℕ → Bool) (w : ℕ) (move : ℕ → List ℕ → List ℕ) (number : ℕ → ℕ → ℕ) : Type 0 where
  pub bits : (n : ℕ) (word : List ℕ) → length (move n word) ≡ length word
  pub value : (n : ℕ) (word : List ℕ) → length word ≡ w → reads v (move n word) ≡ number n (reads v word)
  pub none : (x : ℕ) → x < 2 ^ w → number 0 x ≡ x
  pub twice : (m n x : ℕ) → x < 2 ^ w → number m (number n x) ≡ number (n + m) x

one_stage : (v : ℕ → Bool) (w : ℕ) (move : ℕ → List ℕ → List ℕ) (number : ℕ → ℕ → ℕ) → IsMove v w move number →
    (n x : ℕ) (b : Bool) → x < 2 ^ w → cond b (number n x) x ≡ number (n * bit b) x
one_stage v w move number is n x true h = let e : n ≡ n * 1 = omega arith in ap (λ k. number k x) e
one_stage v w move number is n x false h = let e : 0 ≡ n * 0 = omega arith in sym (is.none x h) ∙ ap (λ k. number k x) e

pub Means-shifted_from : (v : ℕ → Bool) (w : ℕ) (move : ℕ → List ℕ → List ℕ) (number : ℕ → ℕ → ℕ) →
    IsMove v w move number →
    (k : ℕ) (word ys : List ℕ) → length word ≡ w →
    Means v (shifted_from move k word ys) (ReadsAs v w (number (2 ^ k * reads v ys) (reads v word)))
unfolding shifted_from
Means-shifted_from v w move number is k word [] e =
    let small : reads v word < 2 ^ w = rw e at (reads-lt v word) in
    let nothing : 0 ≡ 2 ^ k * 0 = omega arith in
    Means-answer _
    (record { bits = e; value = sym (is.none (reads v word) small) ∙ ap (λ n. number n (reads v word)) nothing })
Means-shifted_from v w move number is k word (y ∷ ys) e =
    let small : reads v word < 2 ^ w = rw e at (reads-lt v word) in
    let b = literal_value v y in
    let r = reads v ys in
    let double : 2 ^ (k + 1) ≡ 2 ^ k * 2 = pow-add 2 k 1 in
    let both : 2 ^ k * bit b + 2 ^ (k + 1) * r ≡ 2 ^ k * (bit b + 2 * r) = rw double (omega arith) in
    Means-bind _ (Means-choose v y (move (2 ^ k) word) word (sym (is.bits (2 ^ k) word)))
    (λ next n.
    let long : length next ≡ w = n.bits ∙ is.bits (2 ^ k) word ∙ e in
    let here : reads v next ≡ number (2 ^ k * bit b) (reads v word) =
    n.value ∙ ap (λ m. cond b m (reads v word)) (is.value (2 ^ k) word e)
    ∙ one_stage v w move number is (2 ^ k) (reads v word) b small in
    Means-weaker (Means-shifted_from v w move number is (k + 1) next ys long)
    (λ out o. record {
      bits = o.bits;
      value =
          o.value ∙ ap (number (2 ^ (k + 1) * r)) here ∙ is.twice (2 ^ (k + 1) * r) (2 ^ k * bit b) (reads v word) small
          ∙ ap (λ n. number n (reads v word)) both;
    }))

-- the three ways

-- a word moved up reads as a product by a power of two
pub up : (v : ℕ → Bool) (w fill : ℕ) → literal_value v fill ≡ false →
    IsMove v w (moved Up fill) (λ n x. (x * 2 ^ n) % 2 ^ w)
up v w fill off = record {
  bits = length-moved_up fill;
  value = λ n word e. reads-moved_up v fill n word off ∙ ap (λ k. (reads v word * 2 ^ n) % 2 ^ k) e;
  none = λ x h. let e : x * 1 ≡ x = omega arith in ap (λ k. k % 2 ^ w) e ∙ mod-eq_of_lt h;
  twice = λ m n x h.
      let e : x * 2 ^ n * 2 ^ m ≡ x * 2 ^ (n + m) = rw (pow-add 2 n m) (omega arith) in
      mul-mod_first (x * 2 ^ n) (2 ^ m) (2 ^ w) ∙ ap (λ k. k % 2 ^ w) e;
}

-- a word moved down reads as a quotient by a power of two
pub down : (v : ℕ → Bool) (w fill : ℕ) → literal_value v fill ≡ false → IsMove v w (moved Down fill) (λ n x. x / 2 ^ n)
down v w fill off = record {
  bits = length-moved_down fill;
  value = λ n word e. reads-moved_down v fill n word off;
  none = λ x h. div-one x;
  twice = λ m n x h. div-div-eq-div-mul x (2 ^ n) (2 ^ m) ∙ ap (λ k. x / k) (sym (pow-add 2 n m));
}

complement-twice : (w y : ℕ) → y < 2 ^ w → complement w (complement w y) ≡ y
complement-twice w y h = omega (arith, h)

pub down-on : (v : ℕ → Bool) (w fill : ℕ) → literal_value v fill ≡ true →
    IsMove v w (moved Down fill) (λ n x. complement w (complement w x / 2 ^ n))
down-on v w fill on = record {
  bits = length-moved_down fill;
  value = λ n word e.
      reads-moved_down-on v fill n word on ∙ ap (λ k. complement k (complement k (reads v word) / 2 ^ n)) e;
  none = λ x h. ap (complement w) (div-one (complement w x)) ∙ complement-twice w x h;
  twice = λ m n x h.
      let small : complement w x / 2 ^ n < 2 ^ w = omega (arith, div-le_self (complement w x) (2 ^ n), pow_pos w) in
      ap (λ k. complement w (k / 2 ^ m)) (complement-twice w (complement w x / 2 ^ n) small)
      ∙ ap (complement w)
      (div-div-eq-div-mul (complement w x) (2 ^ n) (2 ^ m) ∙ ap (λ k. complement w x / k) (sym (pow-add 2 n m)));
}

-- the gates

-- a moved word has literals
pub All-moved : (direction : Direction) (m fill n : ℕ) (word : List ℕ) → IsLiteral m fill → All (IsLiteral m) word →
    All (IsLiteral m) (moved direction fill n word)
All-moved Up m fill n word h k =
    All-take (IsLiteral m) (length word) (replicate n fill ++ word)
    (All-append (IsLiteral m) (replicate n fill) word (All-replicate (IsLiteral m) n fill h) k)
All-moved Down m fill n word h k =
    All-drop (IsLiteral m) n (word ++ replicate n fill)
    (All-append (IsLiteral m) word (replicate n fill) k (All-replicate (IsLiteral m) n fill h))

-- a moved word is a word
pub IsWord-moved : (direction : Direction) (m fill n w : ℕ) (word : List ℕ) → IsLiteral m fill → IsWord w m word →
    IsWord w m (moved direction fill n word)
IsWord-moved direction m fill n w word h k =
    record { bits = length-moved direction fill n word ∙ k.bits; inside = All-moved direction m fill n word h k.inside }

-- the gates of a shift by the bits from a place on
pub Makes-shifted_from : (direction : Direction) (w fill k : ℕ) (word ys : List ℕ) (p : Place) →
    IsLiteral p.next fill → IsWord w p.next word → All (IsLiteral p.next) ys →
    MakesGates (shifted_from (moved direction fill) k word ys) (length ys * w) (IsWord w) p
unfolding shifted_from
Makes-shifted_from direction w fill k word [] p hf hw hy = Makes-count (Makes-answer word hw) (omega arith)
Makes-shifted_from direction w fill k word (y ∷ ys) p hf hw hy =
    let from = moved direction fill (2 ^ k) word in
    let within = IsWord-moved direction p.next fill (2 ^ k) w word hf hw in
    Makes-bind _ (length ys * w)
    (subst (λ n. MakesGates (bitwise (Choose y) from word) n (IsWord n) p) within.bits
    (Makes-bitwise (Choose y) from word p (hw.bits ∙ sym within.bits) (first_inside p.next y ys hy) within.inside
    hw.inside))
    (omega arith)
    (λ next q l n. Makes-shifted_from direction w fill (k + 1) next ys q (omega (arith, l, hf)) n
    (others_inside p.next q.next y ys (omega arith) hy))

-- a shift by one bit, and then by the others
pub Follows-shifted_from_at : (move : ℕ → List ℕ → List ℕ) (k y : ℕ) (word next ys : List ℕ) (n m end : Net)
    (r : List ℕ) →
    k < length ys → y ≡ get_or ys k y →
    Follows (bitwise (Choose y) (move (2 ^ k) word) word) n next m →
    Follows (shifted_from move (k + 1) next (drop (k + 1) ys)) m r end →
    Follows (shifted_from move k word (drop k ys)) n r end
unfolding shifted_from
Follows-shifted_from_at move k y word next ys n m end r l e one rest =
    rw (drop-from k y ys l e) (Follows-bind _ one rest)

-- a shift by no more bits makes nothing
pub Follows-shifted_from_end : (move : ℕ → List ℕ → List ℕ) (k : ℕ) (word ys : List ℕ) (n : Net) → length ys ≤ k →
    Follows (shifted_from move k word (drop k ys)) n word n
unfolding shifted_from
Follows-shifted_from_end move k word ys n l = rw (drop_all k ys l) Follows-answer

-- a byte's shift of 1 isn't cut
pub one_shifted : (k : ℕ) → k < 8 → (1 * 2 ^ k) % 18446744073709551616 ≡ 2 ^ k
one_shifted k h =
    let within : k ≤ 8 = omega (arith, h) in
    let two : 0 < 2 = omega arith in
    let most : 2 ^ k ≤ 2 ^ 8 = pow-le-pow_right two within in
    let e : 1 * 2 ^ k ≡ 2 ^ k = omega arith in
    ap (λ n. n % 18446744073709551616) e ∙ mod-eq_of_lt (omega (arith, most))

-- the operators

once : (n : ℕ) → 2 ^ 0 * n ≡ n
once n = omega arith

top_bit : (low p n : ℕ) (b : Bool) → low < p → n ≡ low + p * bit b → nat_lt n p ≡ not b
top_bit low p n true h e = le-ltb n p (omega (arith, e))
top_bit low p n false h e = lt-ltb n p (omega (arith, h, e))

-- a word whose top literal is false reads below half of all
pub reads-top : (v : ℕ → Bool) (w : ℕ) (a : List ℕ) → 1 ≤ w → length a ≡ w →
    nat_lt (reads v a) (2 ^ (w - 1)) ≡ not (literal_value v (top a))
reads-top v w a one e =
    let n = w - 1 in
    let within : n < length a = omega (arith, one, e) in
    let last : n ≡ length a - 1 = omega (arith, e) in
    let long : length (take n a) ≡ n = simp length-take (omega (arith, within)) in
    let small : reads v (take n a) < 2 ^ n = rw long at (reads-lt v (take n a)) in
    let ends : drop n a ≡ top a ∷ [] =
    drop-cons a n 0 within ∙ rw (drop_all (suc n) a (omega (arith, one, e)), ap (λ k. get_or a k 0) last) refl in
    let parts : reads v a ≡ reads v (take n a) + 2 ^ n * reads v (drop n a) =
    ap (reads v) (sym (take-append-drop n a)) ∙ reads-append v (take n a) (drop n a)
    ∙ ap (λ k. reads v (take n a) + 2 ^ k * reads v (drop n a)) long in
    let highest : reads v (drop n a) ≡ bit (literal_value v (top a)) = ap (reads v) ends ∙ omega arith in
    top_bit (reads v (take n a)) (2 ^ n) (reads v a) (literal_value v (top a)) small
    (parts ∙ ap (λ k. reads v (take n a) + 2 ^ n * k) highest)

-- a shift by w or more moves every bit out
shl-far : (w a b : ℕ) → (a * 2 ^ b) % 2 ^ w ≡ shl_of w a b
shl-far w a b = go (nat_lt b w) refl
  where
    go : (t : Bool) → nat_lt b w ≡ t → (a * 2 ^ b) % 2 ^ w ≡ cond t ((a * 2 ^ b) % 2 ^ w) 0
    go true h = refl
    go false h =
        let split : b - w + w ≡ b = omega (arith, ltb-false b w h) in
        let powers : 2 ^ b ≡ 2 ^ (b - w) * 2 ^ w = ap (λ n. 2 ^ n) (sym split) ∙ pow-add 2 (b - w) w in
        let e : a * 2 ^ b ≡ a * 2 ^ (b - w) * 2 ^ w = rw powers (omega arith) in
        ap (λ n. n % 2 ^ w) e ∙ mul-mod_left (a * 2 ^ (b - w)) (2 ^ w)

lshr-far : (w a b : ℕ) → a < 2 ^ w → a / 2 ^ b ≡ lshr_of w a b
lshr-far w a b small = go (nat_lt b w) refl
  where
    go : (t : Bool) → nat_lt b w ≡ t → a / 2 ^ b ≡ cond t (a / 2 ^ b) 0
    go true h = refl
    go false h =
        let two : 0 < 2 = omega arith in
        let far : w ≤ b = ltb-false b w h in
        let most : 2 ^ w ≤ 2 ^ b = pow-le-pow_right two far in
        div-eq_of_lt (omega (arith, small, most))

-- the circuit of the shift up
pub shl-circuit : (w : ℕ) → IsCircuitOf w Shl
shl-circuit w = of_two w Shl refl
    (λ v a b ea eb. Means-truth (λ t. Means-weaker
    (Means-shifted_from v w (moved Up falsity) _ (up v w falsity (value-falsity v t)) 0 a b ea)
    (λ r k. record {
      bits = k.bits;
      value = k.value ∙ ap (λ n. (reads v a * 2 ^ n) % 2 ^ w) (once (reads v b)) ∙ shl-far w (reads v a) (reads v b);
    })))
    (λ p a b pos ha hb. rw hb.bits at (Makes-shifted_from Up w falsity 0 a b p pos ha hb.inside))

-- the circuit of the shift down
pub lshr-circuit : (w : ℕ) → IsCircuitOf w Lshr
lshr-circuit w = of_two w Lshr refl
    (λ v a b ea eb. Means-truth (λ t. Means-weaker
    (Means-shifted_from v w (moved Down falsity) _ (down v w falsity (value-falsity v t)) 0 a b ea)
    (λ r k. record {
      bits = k.bits;
      value =
          k.value ∙ ap (λ n. reads v a / 2 ^ n) (once (reads v b))
          ∙ lshr-far w (reads v a) (reads v b) (rw ea at (reads-lt v a));
    })))
    (λ p a b pos ha hb. rw hb.bits at (Makes-shifted_from Down w falsity 0 a b p pos ha hb.inside))

-- the circuit of the signed shift down
pub ashr-circuit : (w : ℕ) → 1 ≤ w → IsCircuitOf w Ashr
ashr-circuit w one = of_two w Ashr refl
    (λ v a b ea eb. go v a b ea (literal_value v (top a)) refl)
    (λ p a b pos ha hb. rw hb.bits at
    (Makes-shifted_from Down w (top a) 0 a b p (ha.inside (length a - 1) 0 (omega (arith, one, ha.bits))) ha
    hb.inside))
  where
    go : (v : ℕ → Bool) (a b : List ℕ) → length a ≡ w → (t : Bool) → literal_value v (top a) ≡ t →
        Means v (shifted (moved Down (top a)) a b) (ReadsAs v w (ashr_of w (reads v a) (reads v b)))
    go v a b e false off = Means-weaker
        (Means-shifted_from v w (moved Down (top a)) _ (down v w (top a) off) 0 a b e)
        (λ r k. record {
          bits = k.bits;
          value =
              k.value ∙ ap (λ n. reads v a / 2 ^ n) (once (reads v b))
              ∙ lshr-far w (reads v a) (reads v b) (rw e at (reads-lt v a))
              ∙ ap
              (λ t. cond t (lshr_of w (reads v a) (reads v b))
              (complement w (lshr_of w (complement w (reads v a)) (reads v b))))
              (sym (reads-top v w a one e ∙ ap not off));
        })
    go v a b e true on =
        let small : complement w (reads v a) < 2 ^ w = omega (arith, pow_pos w) in
        Means-weaker
        (Means-shifted_from v w (moved Down (top a)) _ (down-on v w (top a) on) 0 a b e)
        (λ r k. record {
          bits = k.bits;
          value =
              k.value ∙ ap (λ n. complement w (complement w (reads v a) / 2 ^ n)) (once (reads v b))
              ∙ ap (complement w) (lshr-far w (complement w (reads v a)) (reads v b) small)
              ∙ ap
              (λ t. cond t (lshr_of w (reads v a) (reads v b))
              (complement w (lshr_of w (complement w (reads v a)) (reads v b))))
              (sym (reads-top v w a one e ∙ ap not on));
        })
