-- A literal that stands for a gate has the gate's value, and is one of an earlier variable.
use Rattle.std.proofs.Common.{◌≡◌, ℕ, Bool, true, false, not, cond, Option, None, Some, ◌&&◌, ◌||◌, refl, sym, ◌∙◌, ap}
use Rattle.std.proofs.Common.{subst, arith}
use Rattle.std.specs.Prelude.{IsTrue, ◌==◌}
use Rattle.std.specs.Bool.{beq}
use Rattle.std.proofs.lemmas.Bool.Decides.{nat_tests}
use Rattle.am_lit.specs.Literal.{opposite_of}
use Rattle.am_lit.specs.Truth.{literal_value}
use Rattle.am_lit.proofs.Laws.{literal_value-opposite_of}
use Rattle.am_gate.specs.Circuit.{Event, Event.Input, Event.And, Event.Xor, Event.Mux, truth, falsity, IsLiteral}
use Rattle.am_gate.specs.Folding.{folded, folded_in}
use Rattle.am_gate.proofs.Meaning.{literal_value-even, literal_value-odd}
use Rattle.am_gate.proofs.Normals.{IsLiteral-opposite}

-- what folds in a circuit folds by the table
pub folded_from : (b : Bool) (e : Event) (l : ℕ) → folded_in b e ≡ Some l → folded e ≡ Some l
folded_from true e l h = h
folded_from false e l h = absurd (cc h)

-- one line of the table
line : (P : ℕ → Type 0) (b : Bool) (x : ℕ) (rest : Option ℕ) (l : ℕ) → cond b (Some x) rest ≡ Some l →
    (b ≡ true → P x) → (rest ≡ Some l → P l) → P l
line P true x rest l e here more = let same : x ≡ l = cc e in subst P same (here refl)
line P false x rest l e here more = more e

none : (P : ℕ → Type 0) (l : ℕ) → ◌≡◌ {A = Option ℕ} None (Some l) → P l
none P l e = absurd (cc e)

equal : (a b : ℕ) → (a == b) ≡ true → a ≡ b
equal a b e = grind (arith, nat_tests)

either : (a b : ℕ) (P : Type 0) → ((a == 1) || (b == 1)) ≡ true → (a ≡ 1 → P) → (b ≡ 1 → P) → P
either a b P e one two = go (a == 1) (b == 1) refl refl e where
  go : (x y : Bool) → (a == 1) ≡ x → (b == 1) ≡ y → (x || y) ≡ true → P
  go true y p q h = one (equal a 1 p)
  go false true p q h = two (equal b 1 q)
  go false false p q h = absurd (cc h)

both : (x y : Bool) → (x && y) ≡ true → (x ≡ true) × (y ≡ true)
both true true h = (refl, refl)
both true false h = absurd (cc h)
both false y h = absurd (cc h)

module _ (v : ℕ → Bool) (t : IsTrue (v 0)) where
  on : literal_value v truth ≡ true
  on = literal_value-even v 0 ∙ t

  off : literal_value v falsity ≡ false
  off = literal_value-odd v 0 ∙ ap not t

  and-false : (b : Bool) → (b && false) ≡ false
  and-false true = refl
  and-false false = refl

  and-true : (b : Bool) → (b && true) ≡ b
  and-true true = refl
  and-true false = refl

  and-same : (b : Bool) → (b && b) ≡ b
  and-same true = refl
  and-same false = refl

  and-not : (b : Bool) → (not b && b) ≡ false
  and-not true = refl
  and-not false = refl

  -- a folded conjunction has the conjunction of the values
  pub value-and : (a b l : ℕ) → folded (And a b) ≡ Some l → literal_value v l ≡ (literal_value v a && literal_value v b)
  value-and a b l e =
      line P _ falsity _ l e (λ h. either a b (P falsity) h (λ f. rw (f, off) refl)
      (λ f. rw (f, off) (sym (and-false (literal_value v a)))))
      (λ e. line P _ b _ l e (λ h. rw (equal a 0 h, on) refl)
      (λ e. line P _ a _ l e (λ h. rw (equal b 0 h, on) (sym (and-true (literal_value v a))))
      (λ e. line P _ a _ l e (λ h. rw (equal a b h) (sym (and-same (literal_value v b))))
      (λ e. line P _ falsity _ l e
      (λ h. rw (equal a (opposite_of b) h, literal_value-opposite_of v b, off) (sym (and-not (literal_value v b))))
      (λ e. none P l e)))))
    where
      P : ℕ → Type 0
      P m = literal_value v m ≡ (literal_value v a && literal_value v b)

  differ-false : (b : Bool) → not (beq b false) ≡ b
  differ-false true = refl
  differ-false false = refl

  differ-true : (b : Bool) → not (beq b true) ≡ not b
  differ-true true = refl
  differ-true false = refl

  false-differ : (b : Bool) → not (beq false b) ≡ b
  false-differ true = refl
  false-differ false = refl

  true-differ : (b : Bool) → not (beq true b) ≡ not b
  true-differ true = refl
  true-differ false = refl

  differ-same : (b : Bool) → not (beq b b) ≡ false
  differ-same true = refl
  differ-same false = refl

  differ-not : (b : Bool) → not (beq (not b) b) ≡ true
  differ-not true = refl
  differ-not false = refl

  -- a folded exclusive or has the exclusive or of the values
  pub value-xor : (a b l : ℕ) → folded (Xor a b) ≡ Some l →
      literal_value v l ≡ not (beq (literal_value v a) (literal_value v b))
  value-xor a b l e =
      line P _ b _ l e (λ h. rw (equal a 1 h, off) (sym (false-differ (literal_value v b))))
      (λ e. line P _ a _ l e (λ h. rw (equal b 1 h, off) (sym (differ-false (literal_value v a))))
      (λ e. line P _ (opposite_of b) _ l e
      (λ h. rw (equal a 0 h, on, literal_value-opposite_of v b) (sym (true-differ (literal_value v b))))
      (λ e. line P _ (opposite_of a) _ l e
      (λ h. rw (equal b 0 h, on, literal_value-opposite_of v a) (sym (differ-true (literal_value v a))))
      (λ e. line P _ falsity _ l e (λ h. rw (equal a b h, off) (sym (differ-same (literal_value v b))))
      (λ e. line P _ truth _ l e (λ h. rw (equal a (opposite_of b) h, literal_value-opposite_of v b, on)
      (sym (differ-not (literal_value v b))))
      (λ e. none P l e))))))
    where
      P : ℕ → Type 0
      P m = literal_value v m ≡ not (beq (literal_value v a) (literal_value v b))

  choose-same : (c b : Bool) → cond c b b ≡ b
  choose-same true b = refl
  choose-same false b = refl

  choose-on : (c : Bool) → cond c true false ≡ c
  choose-on true = refl
  choose-on false = refl

  choose-off : (c : Bool) → cond c false true ≡ not c
  choose-off true = refl
  choose-off false = refl

  -- a folded choice has the value that is picked
  pub value-mux : (c a b l : ℕ) → folded (Mux c a b) ≡ Some l →
      literal_value v l ≡ cond (literal_value v c) (literal_value v a) (literal_value v b)
  value-mux c a b l e =
      line P _ a _ l e (λ h. rw (equal c 0 h, on) refl)
      (λ e. line P _ b _ l e (λ h. rw (equal c 1 h, off) refl)
      (λ e. line P _ a _ l e (λ h. rw (equal a b h) (sym (choose-same (literal_value v c) (literal_value v b))))
      (λ e. line P _ c _ l e (λ h.
      let k = both (a == 0) (b == 1) h in
      rw (equal a 0 k.0, equal b 1 k.1, on) (sym (choose-on (literal_value v c))))
      (λ e. line P _ (opposite_of c) _ l e (λ h.
      let k = both (a == 1) (b == 0) h in
      rw (equal a 1 k.0, equal b 0 k.1, on, literal_value-opposite_of v c)
      (sym (choose-off (literal_value v c))))
      (λ e. none P l e)))))
    where
      P : ℕ → Type 0
      P m = literal_value v m ≡ cond (literal_value v c) (literal_value v a) (literal_value v b)

-- a literal that stands for a gate is one of an earlier variable

-- a folded conjunction is one of the circuit's literals
pub within-and : (n a b l : ℕ) → IsLiteral n a → IsLiteral n b → folded (And a b) ≡ Some l → IsLiteral n l
within-and n a b l ha hb e =
    line P ((a == falsity) || (b == falsity)) falsity _ l e (λ h. omega (arith, ha))
    (λ e. line P (a == truth) b _ l e (λ h. hb)
    (λ e. line P (b == truth) a _ l e (λ h. ha)
    (λ e. line P (a == b) a _ l e (λ h. ha)
    (λ e. line P (a == opposite_of b) falsity _ l e (λ h. omega (arith, ha))
    (λ e. none P l e)))))
  where
    P : ℕ → Type 0
    P m = IsLiteral n m

-- a folded exclusive or is one of the circuit's literals
pub within-xor : (n a b l : ℕ) → IsLiteral n a → IsLiteral n b → folded (Xor a b) ≡ Some l → IsLiteral n l
within-xor n a b l ha hb e =
    line P (a == falsity) b _ l e (λ h. hb)
    (λ e. line P (b == falsity) a _ l e (λ h. ha)
    (λ e. line P (a == truth) (opposite_of b) _ l e (λ h. IsLiteral-opposite n b hb)
    (λ e. line P (b == truth) (opposite_of a) _ l e (λ h. IsLiteral-opposite n a ha)
    (λ e. line P (a == b) falsity _ l e (λ h. omega (arith, ha))
    (λ e. line P (a == opposite_of b) truth _ l e (λ h. omega (arith, ha))
    (λ e. none P l e))))))
  where
    P : ℕ → Type 0
    P m = IsLiteral n m

-- a folded choice is one of the circuit's literals
pub within-mux : (n c a b l : ℕ) → IsLiteral n c → IsLiteral n a → IsLiteral n b → folded (Mux c a b) ≡ Some l →
    IsLiteral n l
within-mux n c a b l hc ha hb e =
    line P (c == truth) a _ l e (λ h. ha)
    (λ e. line P (c == falsity) b _ l e (λ h. hb)
    (λ e. line P (a == b) a _ l e (λ h. ha)
    (λ e. line P ((a == truth) && (b == falsity)) c _ l e (λ h. hc)
    (λ e. line P ((a == falsity) && (b == truth)) (opposite_of c) _ l e (λ h. IsLiteral-opposite n c hc)
    (λ e. none P l e)))))
  where
    P : ℕ → Type 0
    P m = IsLiteral n m

-- an input never folds
pub never-input : (b : Bool) → folded_in b Input ≡ None
never-input true = refl
never-input false = refl
