-- What is read of edges is spelled so, and what is spelled so is read.
use Rattle.std.proofs.Common.{◌≡◌, ℕ, ◌-◌, ◌^◌, ◌<◌, ◌≤◌, true, false, List, [], ◌∷◌, ◌++◌, length, codes, decimal}
use Rattle.std.proofs.Common.{refl, ap, inl, inr, arith, lit<, bytes_eq}
use Rattle.std.specs.Prelude.{◌⊎◌, nat_lt}
use Rattle.std.proofs.Math.Pow.{pow_mono}
use Rattle.am_syntax.specs.Exact.{IsExact, always}
use Rattle.am_syntax.specs.Numerals.{is_digits}
use Rattle.am_syntax.specs.Pieces.{◌▹◌, Piece, below, choice, is_number_next, key, key_or, keyed, next_is, number}
use Rattle.am_syntax.specs.Pieces.{repeat}
use Rattle.am_syntax.specs.Pieces.{syntax}
use Rattle.am_syntax.specs.Readers.{Words}
use Rattle.am_syntax.proofs.Laws.{below_law, choice_law, digits_of_any, key_law, keyed_law, number_law, one_more_law}
use Rattle.am_syntax.proofs.Laws.{repeat_law, same_bytes, seen_good_law, seen_law, then_law}
use Rattle.am_flow.specs.declared.flow.Action.{Action}
use Rattle.am_flow.specs.declared.flow.Action.TheVariants.{Any, Apply, Copy, Set, Skip}
use Rattle.am_flow.specs.declared.flow.Edge.{Edge}
use Rattle.am_flow.specs.Grammar.{ActionParts, FlowShape, action, action_of, action_parts, application, edge, edge_line}
use Rattle.am_flow.specs.Grammar.{edge_of, edge_parts, edges, variable}
use Rattle.am_flow.specs.inside.Shapes.{IsFlowShape}

-- the same law, where less may follow
pub narrowed : {X : Type 0} {p : Piece X} {May Then : Words → Type 0} → IsExact p May →
    ((rest : Words) → Then rest → May rest) → IsExact p Then
narrowed law meets = record {
  takes = law.takes;
  again = λ s x u good taken then. law.again s x u good taken (meets _ then);
  advances = law.advances;
  no_further = law.no_further;
}

-- no number follows
abbrev pub NoNumber : Words → Type 0
NoNumber rest = is_number_next rest ≡ false

narrow_word : (w : ℕ) → w ≤ 8 → 2 ^ w - 1 < 2 ^ 64
narrow_word w h = let p : 2 ^ w ≤ 2 ^ 8 = pow_mono h in omega (arith, p)

-- a number begins as one
number_goes : (n : ℕ) (rest : Words) → is_number_next (decimal n ∷ rest) ≡ true
number_goes n rest = digits_of_any n

module _ (s : FlowShape) (is : IsFlowShape s) where
  -- a variable is read exactly where its number stands
  pub variable_law : IsExact (variable s) always
  variable_law = below_law 0 s.variables is.variables

  -- a variable takes a token
  pub variable_moves : (seen : List ℕ) (a : ℕ) → (variable s).Good a → 0 < length ((variable s).spell a)
  unfolding below
  variable_moves seen a good = lit< tt

  variable_goes : (seen : List ℕ) (a : ℕ) (rest : Words) → (variable s).Good a →
      is_number_next ((variable s).spell a ++ rest) ≡ true
  unfolding below
  variable_goes seen a rest good = number_goes a rest

  pub more_law : IsExact (repeat is_number_next (λ _. variable s)) NoNumber
  more_law = repeat_law (λ _. variable_law) is_number_next variable_moves (λ _ _ _. refl) (λ rest h. (h, tt))
      variable_goes (λ _ _ _ _. tt)

  -- ---- the actions

  any_law : IsExact (keyed (codes "any") (variable s)) NoNumber
  any_law = narrowed (keyed_law syntax (codes "any") variable_law) (λ _ _. tt)

  abbrev set : Piece (ℕ × ℕ)
  set = keyed (codes "set") (variable s ▹ λ _. number 0 (2 ^ s.width - 1))

  set_law : IsExact set NoNumber
  set_law =
      narrowed (keyed_law syntax (codes "set") (then_law variable_law (λ _ _.
      number_law 0 (2 ^ s.width - 1) (narrow_word s.width is.width)) (λ _ _ _ _ _ _. tt))) (λ _ _. tt)

  abbrev copy : Piece (ℕ × ℕ)
  copy = keyed (codes "copy") (variable s ▹ λ _. variable s)

  copy_law : IsExact copy NoNumber
  copy_law =
      narrowed (keyed_law syntax (codes "copy") (then_law variable_law (λ _ _. variable_law) (λ _ _ _ _ _ _. tt)))
      (λ _ _. tt)

  abbrev apply : Piece (ℕ × (ℕ × (ℕ × List ℕ)))
  apply = keyed (codes "apply") (application s)

  pub apply_law : IsExact apply NoNumber
  apply_law =
      keyed_law syntax (codes "apply") (then_law (below_law 0 s.operations is.operations) (λ _ _.
      then_law variable_law (λ _ _. then_law variable_law (λ _ _. more_law)
      (λ _ _ _ _ _ _. tt)) (λ _ _ _ _ _ _. tt)) (λ _ _ _ _ _ _. tt))

  -- ---- which comes is told by the key word

  abbrev copy_on : Piece ((ℕ × ℕ) ⊎ (ℕ × (ℕ × (ℕ × List ℕ))))
  copy_on = choice (next_is (codes "copy")) copy apply

  copy_on_law : IsExact copy_on NoNumber
  copy_on_law = choice_law (next_is (codes "copy")) copy_law apply_law (λ _ _ _. refl) (λ _ _ _. refl) (λ _ _ _. refl)

  abbrev set_on : Piece ((ℕ × ℕ) ⊎ ((ℕ × ℕ) ⊎ (ℕ × (ℕ × (ℕ × List ℕ)))))
  set_on = choice (next_is (codes "set")) set copy_on

  no_set : (y : (ℕ × ℕ) ⊎ (ℕ × (ℕ × (ℕ × List ℕ)))) (rest : Words) → copy_on.Good y →
      next_is (codes "set") (copy_on.spell y ++ rest) ≡ false
  no_set (inl x) rest good = refl
  no_set (inr x) rest good = refl

  set_on_law : IsExact set_on NoNumber
  set_on_law = choice_law (next_is (codes "set")) set_law copy_on_law (λ _ _ _. refl) no_set (λ _ _ _. refl)

  abbrev any_on : Piece (ℕ ⊎ ((ℕ × ℕ) ⊎ ((ℕ × ℕ) ⊎ (ℕ × (ℕ × (ℕ × List ℕ))))))
  any_on = choice (next_is (codes "any")) (keyed (codes "any") (variable s)) set_on

  no_any : (y : (ℕ × ℕ) ⊎ ((ℕ × ℕ) ⊎ (ℕ × (ℕ × (ℕ × List ℕ))))) (rest : Words) → set_on.Good y →
      next_is (codes "any") (set_on.spell y ++ rest) ≡ false
  no_any (inl x) rest good = refl
  no_any (inr (inl x)) rest good = refl
  no_any (inr (inr x)) rest good = refl

  any_on_law : IsExact any_on NoNumber
  any_on_law = choice_law (next_is (codes "any")) any_law set_on_law (λ _ _ _. refl) no_any (λ _ _ _. refl)

  no_skip : (y : ℕ ⊎ ((ℕ × ℕ) ⊎ ((ℕ × ℕ) ⊎ (ℕ × (ℕ × (ℕ × List ℕ)))))) (rest : Words) → any_on.Good y →
      next_is (codes "skip") (any_on.spell y ++ rest) ≡ false
  no_skip (inl x) rest good = refl
  no_skip (inr (inl x)) rest good = refl
  no_skip (inr (inr (inl x))) rest good = refl
  no_skip (inr (inr (inr x))) rest good = refl

  abbrev skip_on : Piece ActionParts
  skip_on = choice (next_is (codes "skip")) (key (codes "skip")) any_on

  skip_spelled : (u : Unit {0}) (rest : Words) → (key (codes "skip")).Good u →
      next_is (codes "skip") ((key (codes "skip")).spell u ++ rest) ≡ true
  unfolding key_or
  skip_spelled u rest good = refl

  skip_on_law : IsExact skip_on NoNumber
  skip_on_law =
      choice_law (next_is (codes "skip")) (narrowed (key_law syntax (codes "skip")) (λ _ _. tt)) any_on_law
      skip_spelled no_skip (λ _ _ _. refl)

  there : (x : ActionParts) → skip_on.Good x → action_parts s (action_of x) ≡ x
  there (inl u) good = refl
  there (inr (inl x)) good = refl
  there (inr (inr (inl x))) good = refl
  there (inr (inr (inr (inl x)))) good = refl
  there (inr (inr (inr (inr x)))) good = refl

  back : (a : Action) → skip_on.Good (action_parts s a) → action_of (action_parts s a) ≡ a
  unfolding below
  back Skip good = refl
  back (Any a) good = refl
  back (Set a c) good = refl
  back (Copy a b) good = refl
  back (Apply i a []) good = absurd (omega (arith, good.1.1.0.1))
  back (Apply i a (b ∷ more)) good = refl

  pub action_law : IsExact (action s) NoNumber
  unfolding action
  action_law = seen_good_law action_of (action_parts s) skip_on_law there back

  -- ---- edges

  pub node_law : IsExact (below 0 s.nodes) always
  node_law = below_law 0 s.nodes is.nodes

  pub edge_line_law : IsExact (edge_line s) NoNumber
  unfolding edge_line
  edge_line_law =
      seen_law edge_of edge_parts (keyed_law syntax (codes "edge") (then_law node_law (λ _ _.
      then_law node_law (λ _ _. action_law) (λ _ _ _ _ _ _. tt)) (λ _ _ _ _ _ _. tt))) (λ x good. refl) (λ e. refl)

  -- an edge is read exactly where one is spelled and there may be one more
  pub edge_law : (seen : List Edge) → IsExact (edge s seen) NoNumber
  unfolding edge
  edge_law seen = one_more_law (nat_lt (length seen) 256) edge_line_law

  -- an edge takes tokens
  pub edge_moves : (seen : List Edge) (e : Edge) → (edge s seen).Good e → 0 < length ((edge s seen).spell e)
  unfolding edge edge_line
  edge_moves seen e good = omega arith

  edge_goes : (seen : List Edge) (e : Edge) (rest : Words) → (edge s seen).Good e →
      next_is (codes "edge") ((edge s seen).spell e ++ rest) ≡ true
  unfolding edge edge_line
  edge_goes seen e rest good = refl

  edge_is_no_number : (seen : List Edge) (e : Edge) (rest : Words) → (edge s seen).Good e →
      NoNumber ((edge s seen).spell e ++ rest)
  unfolding edge edge_line
  edge_is_no_number seen e rest good = refl

  abbrev pub Closes : Words → Type 0
  Closes rest = next_is (codes "end") rest ≡ true

  closes_both : (rest : Words) → Closes rest → (next_is (codes "edge") rest ≡ false) × NoNumber rest
  closes_both [] h = absurd cc
  closes_both (v ∷ vs) h =
      let e = same_bytes v (codes "end") h in
      (ap (λ w. bytes_eq w (codes "edge")) e, ap is_digits e)

  -- edges are read exactly where they are spelled, up to the line after them
  pub edges_law : IsExact (edges s) Closes
  unfolding edges
  edges_law = repeat_law edge_law (next_is (codes "edge")) edge_moves (λ _ _ _. refl) closes_both edge_goes
      edge_is_no_number
