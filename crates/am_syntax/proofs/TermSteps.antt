-- The steps of reading a term.
use Rattle.std.proofs.Common.{◌≡◌, ℕ, zero, suc, ◌-◌, ◌<◌, Bool, true, cond, ◌||◌, ◌==◌, List, [], ◌∷◌, Option, Some}
use Rattle.std.proofs.Common.{None, Result, Ok, Err, sym, ap, ◌∙◌, sum_by, arith, bytes_eq, codes, inl, inr}
use Rattle.std.proofs.lemmas.Bool.{eqb-false}
use Rattle.am_text.specs.Tokens.{Left}
use Rattle.am_bv.specs.Operators.{arity}
use Rattle.am_bv.specs.Terms.{nodes}
use Rattle.am_bv.specs.declared.op.Op.{Op}
use Rattle.am_bv.specs.declared.term.Term.{Term}
use Rattle.am_bv.specs.declared.term.Term.TheVariants.{Const, Field, Node}
use Rattle.am_bv.proofs.Laws.{nodes-Const, nodes-Field}
use Rattle.am_syntax.specs.declared.refusal.Cause.{Cause}
use Rattle.am_syntax.specs.declared.refusal.Cause.TheVariants.{Count, Name, Number, Syntax}
use Rattle.am_syntax.specs.Spelling.{Scope}
use Rattle.am_syntax.specs.Readers.{◌>>=◌, Word, Reader, done, judged, onward}
use Rattle.am_syntax.specs.Pieces.{closing, times_from}
use Rattle.am_syntax.specs.Names.{operator}
use Rattle.am_syntax.specs.Terms.{begins_capital, head_judge, leaf_judge, node_by, term_at, variable_judge, within}
use Rattle.am_syntax.specs.Numerals.{is_digits, number_of}
use Rattle.am_syntax.proofs.PieceLaws.{judged_word}
use Rattle.am_syntax.proofs.TokenLaws.{chosen, cond_ok}

-- an argument after those seen, of so many nodes together
abbrev pub argument : Scope → ℕ → ℕ → List Term → Reader Term
argument scope depth room seen = term_at scope true depth (room - sum_by nodes seen)

-- what follows an operator's name
abbrev pub after_operator : (List Term → Reader Term) → Op → Reader Term
after_operator argument op = times_from argument (arity op) [] >>= λ args. closing.read >>= λ _. done (Node op args)

-- the closing parenthesis after an operator's arguments
abbrev pub close_node : Op → List Term → Reader Term
close_node op args = closing.read >>= λ _. done (Node op args)

module _ (scope : Scope) (inside : Bool) where
  -- where the first token is refused, the term is
  pub term_refused : (depth room : ℕ) (s : Left) (stop : Cause × Left) →
      judged (head_judge scope inside depth room) s ≡ Err stop → term_at scope inside depth room s ≡ Err stop
  unfolding term_at
  term_refused zero room s stop e = ap (onward (node_by (λ _. judged (λ _. Err Count)))) e
  term_refused (suc depth) room s stop e = ap (onward (node_by (argument scope depth (room - 1)))) e

  -- a leaf is the whole term
  pub term_leaf : (depth room : ℕ) (s : Left) (t : Term) (left : Left) →
      judged (head_judge scope inside depth room) s ≡ Ok (Some t, left) →
      term_at scope inside depth room s ≡ Ok (t, left)
  unfolding term_at
  term_leaf zero room s t left e = ap (onward (node_by (λ _. judged (λ _. Err Count)))) e
  term_leaf (suc depth) room s t left e = ap (onward (node_by (argument scope depth (room - 1)))) e

  -- an opening parenthesis is followed by an operator's name and its arguments
  pub term_node : (depth room : ℕ) (s left : Left) → 0 < depth →
      judged (head_judge scope inside depth room) s ≡ Ok (None, left) →
      term_at scope inside depth room s ≡ (operator.read >>= after_operator (argument scope (depth - 1) (room - 1)))
      left
  unfolding term_at
  term_node zero room s left deep e = absurd (omega arith)
  term_node (suc depth) room s left deep e =
      let k : depth ≡ suc depth - 1 = omega arith in
      ap (onward (node_by (argument scope depth (room - 1)))) e
      ∙ ap (λ d. (operator.read >>= after_operator (argument scope d (room - 1))) left) k

  -- a term that is an operator's, after the operator's name
  pub term_after : (depth room : ℕ) (s left : Left) (head : Option Term) →
      judged (head_judge scope inside depth room) s ≡ Ok (head, left) → head ≡ None → 0 < depth →
      (op : Op) (next : Left) → operator.read left ≡ Ok (op, next) → (n : ℕ) → n ≡ arity op →
      term_at scope inside depth room s ≡ onward (close_node op)
      (times_from (argument scope (depth - 1) (room - 1)) n [] next)
  term_after depth room s left head e none deep op next read n count =
      term_node depth room s left deep (e ∙ ap (λ h. Ok (h, left)) none)
      ∙ ap (onward (after_operator (argument scope (depth - 1) (room - 1)))) read
      ∙ ap (λ m. onward (close_node op) (times_from (argument scope (depth - 1) (room - 1)) m [] next)) (sym count)

-- the sum of one item
pub sum_by-one : {A : Type 0} (f : A → ℕ) (x : A) → sum_by f (x ∷ []) ≡ f x
sum_by-one f x = omega arith

-- a leaf is no operator
pub within_none : (room : ℕ) (verdict : Result Term Cause) → within room verdict ≡ Ok None → ⊥
within_none room (Ok t) e =
    elim (chosen (room == 0) (Err Count) (Ok (Some t)) (Ok None) e) [
      | inl none ↦ (let f : ◌≡◌ {A = Result (Option Term) Cause} (Err Count) (Ok None) = none.1 in cc)
      | inr some ↦ (let f : ◌≡◌ {A = Result (Option Term) Cause} (Ok (Some t)) (Ok None) = some.1 in cc)
    ]
within_none room (Err cause) e = cc

-- the leaf of a first token is one node
module _ (scope : Scope) where
  variable_is_one : (v : Word) (t : Term) → variable_judge scope v ≡ Ok t → nodes t ≡ 1
  variable_is_one [] t e = absurd cc
  variable_is_one (b ∷ bs) t e =
      let h = cond_ok _ (Field (number_of bs)) Name t e in ap nodes (sym h.1) ∙ nodes-Field (number_of bs)

  leaf_is_one : (v : Word) (t : Term) → leaf_judge scope v ≡ Ok t → nodes t ≡ 1
  leaf_is_one v t e =
      elim (chosen (is_digits v) _ _ (Ok t) e) [
        | inl digits ↦ let h =
            cond_ok _ (Const (number_of v)) Number t digits.1 in ap nodes (sym h.1) ∙ nodes-Const (number_of v)
        | inr other ↦ elim (chosen (begins_capital v) (Err Syntax) (variable_judge scope v) (Ok t) other.1) [
          | inl capital ↦ absurd (let f : ◌≡◌ {A = Result Term Cause} (Err Syntax) (Ok t) = capital.1 in cc)
          | inr small ↦ variable_is_one v t small.1
        ]
      ]

  -- a leaf for which there is room
  pub within_some : (room : ℕ) (verdict : Result Term Cause) (t : Term) → within room verdict ≡ Ok (Some t) →
      (verdict ≡ Ok t) × (0 < room)
  within_some room (Ok u) t e =
      elim (chosen (room == 0) (Err Count) (Ok (Some u)) (Ok (Some t)) e) [
        | inl none ↦ absurd (let f : ◌≡◌ {A = Result (Option Term) Cause} (Err Count) (Ok (Some t)) = none.1 in cc)
        | inr some ↦ (
          let f : ◌≡◌ {A = Result (Option Term) Cause} (Ok (Some u)) (Ok (Some t)) = some.1 in
              cc,
          let no = eqb-false _ _ some.0 in omega arith,
        )
      ]
  within_some room (Err cause) t e = absurd cc

  -- a first token that gives a term is a leaf, for which there is room
  pub head_some : (inside : Bool) (depth room : ℕ) (v : Word) (t : Term) →
      head_judge scope inside depth room v ≡ Ok (Some t) → (leaf_judge scope v ≡ Ok t) × (0 < room)
  head_some inside depth room v t e =
      elim (chosen (bytes_eq v (codes "(")) _ _ (Ok (Some t)) e) [
        | inl opens ↦ elim (chosen (room == 0 || depth == 0) (Err Count) (Ok None) (Ok (Some t)) opens.1) [
          | inl full ↦ absurd (let f : ◌≡◌ {A = Result (Option Term) Cause} (Err Count) (Ok (Some t)) = full.1 in cc)
          | inr free ↦ absurd (let f : ◌≡◌ {A = Result (Option Term) Cause} (Ok None) (Ok (Some t)) = free.1 in cc)
        ]
        | inr other ↦ elim (chosen (bytes_eq v (codes ")")) (Err (cond inside Count Syntax))
            (within room (leaf_judge scope v)) (Ok (Some t)) other.1) [
              | inl closes ↦ absurd (let f : ◌≡◌ {A = Result (Option Term) Cause} (Err (cond inside Count Syntax))
                  (Ok (Some t)) = closes.1 in cc)
              | inr leaf ↦ within_some room (leaf_judge scope v) t leaf.1
            ]
      ]

  -- it is one node
  pub head_is_one : (inside : Bool) (depth room : ℕ) (s : Left) (t : Term) (left : Left) →
      judged (head_judge scope inside depth room) s ≡ Ok (Some t, left) → nodes t ≡ 1
  head_is_one inside depth room s t left e =
      let v = judged_word (head_judge scope inside depth room) s (Some t) left e in
      leaf_is_one v.0 t (head_some inside depth room v.0 t v.1).0
