-- Gates at each bit of two words.
use Rattle.std.proofs.Common.{◌≡◌, ℕ, suc, ◌+◌, ◌*◌, ◌<◌, ◌≤◌, Bool, true, false, not, ◌&&◌, cond, List, [], ◌∷◌}
use Rattle.std.proofs.Common.{length, drop, get_or, refl, ap, arith}
use Rattle.std.proofs.lemmas.List.{drop_all}
use Rattle.am_gate.specs.Circuit.{Net, IsLiteral}
use Rattle.am_gate.specs.Build.{Step, Place, Means, Follows}
use Rattle.am_lit.proofs.Laws.{literal_value-opposite_of}
use Rattle.am_gate.proofs.Laws.{IsLiteral-opposite, Means-and, Means-bind, Means-answer, Means-mux, Means-weaker}
use Rattle.am_gate.proofs.Laws.{Follows-bind, Follows-answer, Makes-bind, Makes-answer, Makes-and, Makes-xor, Makes-mux}
use Rattle.am_gate.specs.Promises.{MakesGates}
use Rattle.am_lit.specs.Literal.{opposite_of}
use Rattle.std.specs.Prelude.{All}
use Rattle.std.proofs.lemmas.List.Elements.{All-nil, All-cons}
use Rattle.am_lit.specs.Truth.{literal_value}
use Rattle.am_blast.specs.declared.bitwise.Gate.{Gate}
use Rattle.am_blast.specs.declared.bitwise.Gate.TheVariants.{Both, Either, Differ, Choose}
use Rattle.am_blast.specs.Words.{bit, reads, ReadsAs, IsWord}
use Rattle.am_blast.specs.Bitwise.{either, gate_of, bitwise, choice, IsGateOver}
use Rattle.am_blast.proofs.Words.{first_inside, others_inside, All-later, drop-from}

-- at least one of two literals
pub Means-either : (v : ℕ → Bool) (a b : ℕ) →
    Means v (either a b) (λ l. literal_value v l ≡ not (not (literal_value v a) && not (literal_value v b)))
unfolding either
Means-either v a b =
    Means-bind _ (Means-and v (opposite_of a) (opposite_of b))
    (λ neither h. Means-answer _
    (rw (literal_value-opposite_of v neither, h, literal_value-opposite_of v a, literal_value-opposite_of v b)
    refl))

-- a gate at each bit reads as a number that is made bit by bit
pub Means-bitwise : (v : ℕ → Bool) (gate : Gate) (value : Bool → Bool → Bool) (number : ℕ → ℕ → ℕ) → 0 ≡ number 0 0 →
    ((x y : Bool) (m n : ℕ) → bit (value x y) + 2 * number m n ≡ number (bit x + 2 * m) (bit y + 2 * n)) →
    ((a b : ℕ) → Means v (gate_of gate a b) (λ l. literal_value v l ≡ value (literal_value v a) (literal_value v b))) →
    (xs ys : List ℕ) → length ys ≡ length xs →
    Means v (bitwise gate xs ys) (ReadsAs v (length xs) (number (reads v xs) (reads v ys)))
unfolding bitwise
Means-bitwise v gate value number none more means [] [] e = Means-answer _ (record { bits = refl; value = none })
Means-bitwise v gate value number none more means [] (y ∷ ys) e = absurd (omega arith)
Means-bitwise v gate value number none more means (x ∷ xs) [] e = absurd (omega arith)
Means-bitwise v gate value number none more means (x ∷ xs) (y ∷ ys) e =
    Means-bind _ (means x y)
    (λ first f. Means-bind _ (Means-bitwise v gate value number none more means xs ys (omega arith))
    (λ rest r. Means-answer _ (record {
      bits = ap suc r.bits;
      value = rw (f, r.value) (more (literal_value v x) (literal_value v y) (reads v xs) (reads v ys));
    })))

-- the word a where c is true, else the word b
pub Means-choose : (v : ℕ → Bool) (c : ℕ) (xs ys : List ℕ) → length ys ≡ length xs →
    Means v (bitwise (Choose c) xs ys) (ReadsAs v (length xs) (cond (literal_value v c) (reads v xs) (reads v ys)))
Means-choose v c =
    Means-bitwise v (Choose c) (cond (literal_value v c)) (cond (literal_value v c)) (none (literal_value v c))
    (choose (literal_value v c)) (Means-mux v c)
  where
    none : (b : Bool) → ◌≡◌ {A = ℕ} 0 (cond b 0 0)
    none true = refl
    none false = refl

    choose : (b p q : Bool) (m n : ℕ) → bit (cond b p q) + 2 * cond b m n ≡ cond b (bit p + 2 * m) (bit q + 2 * n)
    choose true p q m n = refl
    choose false p q m n = refl

-- the word a where the test holds, else the word b
pub Means-choice : (v : ℕ → Bool) (test : Step ℕ) (holds : Bool) (xs ys : List ℕ) → length ys ≡ length xs →
    Means v test (λ l. literal_value v l ≡ holds) →
    Means v (choice test xs ys) (ReadsAs v (length xs) (cond holds (reads v xs) (reads v ys)))
unfolding choice
Means-choice v test holds xs ys e means =
    Means-bind _ means (λ c h. Means-weaker (Means-choose v c xs ys e) (λ r k. rw (← h) k))

-- a disjunction is at most one gate
pub Makes-either : (a b : ℕ) (p : Place) → IsLiteral p.next a → IsLiteral p.next b →
    MakesGates (either a b) 1 IsLiteral p
unfolding either
Makes-either a b p ha hb =
    Makes-bind _ 0
    (Makes-and (opposite_of a) (opposite_of b) p (IsLiteral-opposite p.next a ha)
    (IsLiteral-opposite p.next b hb))
    refl
    (λ neither q l h. Makes-answer _ (IsLiteral-opposite q.next neither h))

Makes-gate : (g : Gate) (a b : ℕ) (p : Place) → IsGateOver p.next g → IsLiteral p.next a → IsLiteral p.next b →
    MakesGates (gate_of g a b) 1 IsLiteral p
Makes-gate Both a b p h ha hb = Makes-and a b p ha hb
Makes-gate Either a b p h ha hb = Makes-either a b p ha hb
Makes-gate Differ a b p h ha hb = Makes-xor a b p ha hb
Makes-gate (Choose c) a b p h ha hb = Makes-mux c a b p h ha hb

IsGateOver-later : (g : Gate) (m n : ℕ) → m ≤ n → IsGateOver m g → IsGateOver n g
IsGateOver-later Both m n l h = tt
IsGateOver-later Either m n l h = tt
IsGateOver-later Differ m n l h = tt
IsGateOver-later (Choose c) m n l h = omega arith

-- a gate for each bit
pub Makes-bitwise : (g : Gate) (xs ys : List ℕ) (p : Place) → length ys ≡ length xs → IsGateOver p.next g →
    All (IsLiteral p.next) xs → All (IsLiteral p.next) ys →
    MakesGates (bitwise g xs ys) (length xs) (IsWord (length xs)) p
unfolding bitwise
Makes-bitwise g [] [] p e h hx hy = Makes-answer _ (record { bits = refl; inside = All-nil (IsLiteral p.next) })
Makes-bitwise g [] (y ∷ ys) p e h hx hy = absurd (omega arith)
Makes-bitwise g (x ∷ xs) [] p e h hx hy = absurd (omega arith)
Makes-bitwise g (x ∷ xs) (y ∷ ys) p e h hx hy =
    Makes-bind _ (length xs) (Makes-gate g x y p h (first_inside p.next x xs hx) (first_inside p.next y ys hy))
    (omega arith)
    (λ first q l f. Makes-bind _ 0
    (Makes-bitwise g xs ys q (omega arith) (IsGateOver-later g p.next q.next (omega arith) h)
    (others_inside p.next q.next x xs (omega arith) hx) (others_inside p.next q.next y ys (omega arith) hy))
    (omega arith)
    (λ rest r k s. Makes-answer _ (record {
      bits = ap suc s.bits;
      inside = All-cons (IsLiteral r.next) first rest (omega (arith, f, k)) s.inside;
    })))

-- the gates of the test, and one for each bit
pub Makes-choice : (test : Step ℕ) (k : ℕ) (xs ys : List ℕ) (p : Place) → length ys ≡ length xs →
    All (IsLiteral p.next) xs → All (IsLiteral p.next) ys →
    MakesGates test k IsLiteral p → MakesGates (choice test xs ys) (k + length xs) (IsWord (length xs)) p
unfolding choice
Makes-choice test k xs ys p e hx hy makes =
    Makes-bind _ (length xs) makes refl
    (λ c q l h. Makes-bitwise (Choose c) xs ys q e h (All-later p.next q.next xs (omega arith) hx)
    (All-later p.next q.next ys (omega arith) hy))

-- one more bit of a row of gates
pub Follows-bitwise_at : (gate : Gate) (i a b : ℕ) (xs ys : List ℕ) (n m end : Net) (g : ℕ) (rest : List ℕ) →
    i < length xs → i < length ys → a ≡ get_or xs i a → b ≡ get_or ys i b →
    Follows (gate_of gate a b) n g m → Follows (bitwise gate (drop (i + 1) xs) (drop (i + 1) ys)) m rest end →
    Follows (bitwise gate (drop i xs) (drop i ys)) n (g ∷ rest) end
unfolding bitwise
Follows-bitwise_at gate i a b xs ys n m end g rest lx ly ea eb one more =
    rw (drop-from i a xs lx ea, drop-from i b ys ly eb)
    (Follows-bind _ one (Follows-bind _ more Follows-answer))

-- a gate at each of no more bits makes nothing
pub Follows-bitwise_end : (gate : Gate) (i : ℕ) (xs ys : List ℕ) (n : Net) → length xs ≤ i →
    Follows (bitwise gate (drop i xs) (drop i ys)) n [] n
unfolding bitwise
Follows-bitwise_end gate i xs ys n l = rw (drop_all i xs l) Follows-answer
