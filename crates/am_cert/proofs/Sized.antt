-- How large the terms of a transformer are: their nodes, and how deep they nest.
use Rattle.std.proofs.Common.{◌≡◌, ℕ, zero, suc, ◌+◌, ◌*◌, ◌^◌, ◌<◌, ◌≤◌, List, [], ◌∷◌, All, map, max, length, get_or}
use Rattle.std.proofs.Common.{sum_by, refl, sym, ap, subst, arith, inl, inr, lit≤}
use Rattle.std.specs.Prelude.{IsTrue, Option, None, Some}
use Rattle.std.specs.List.{AllByRecursion, AllZip}
use Rattle.std.proofs.Math.Nat.{mul-le-mul_right, one-le-pow, pow-le-pow_right, pow-succ'}
use Rattle.std.proofs.lemmas.Bool.{and_parts, cases_lt, eqb-true}
use Rattle.std.proofs.lemmas.List.{get_or_past}
use Rattle.std.proofs.lemmas.List.Elements.{All-cons, All-nil}
use Rattle.std.proofs.lemmas.List.Sums.{sum_by-cons}
use Rattle.std.proofs.lemmas.Option.{get_or_from_slice_get, slice_get_within}
use Rattle.am_bv.specs.Operators.{arity}
use Rattle.am_bv.specs.Terms.{nodes}
use Rattle.am_bv.specs.declared.op.Op.{Op}
use Rattle.am_bv.specs.declared.op.Op.TheVariants.{Not, Neg, Ite}
use Rattle.am_bv.specs.declared.term.Term.{Term}
use Rattle.am_bv.specs.declared.term.Term.TheOpen.{Const as Const-F, Field as Field-F, Node as Node-F}
use Rattle.am_bv.specs.declared.term.Term.TheVariants.{Const, Field, Node as NodeTerm, outs-Const, outs-Field}
use Rattle.am_bv.specs.declared.term.Term.TheVariants.{outs-Node}
use Rattle.am_bv.proofs.Laws.{arity_most, by_induction, fold_at, nodes-Node}
use Rattle.am_syntax.specs.Spelling.{greatest, nesting, nesting_step}
use Rattle.am_tree.specs.Grammars.{is_production}
use Rattle.am_tree.specs.Trees.{AreDerived, Derives, Rules, children_of, production_at, production_of, term_by}
use Rattle.am_tree.specs.Trees.{term_of, terms_at}
use Rattle.am_tree.specs.declared.grammar.Production.{Production}
use Rattle.am_tree.specs.declared.grammar.Production.TheVariants.{Leaf, Node}
use Rattle.am_tree.specs.declared.tree.Tree.{Tree}
use Rattle.am_tree.proofs.Laws.{leaf-small, term-by}
use Rattle.am_problem.specs.Limits.{IsFormed}
use Rattle.am_problem.specs.Problem.{AreDerivable, Problem}

-- so many nodes and parentheses in one another at most
pub record IsSmall (most deepest : ℕ) (t : Term) : Type 0 where
  pub few : nodes t ≤ most
  pub flat : nesting t ≤ deepest

-- what holds of all productions holds of the one at a place
at_production : (P : Production → Type 0) (rules : Rules) → All (All P) rules →
    (n i : ℕ) (q : Production) → production_at rules n i ≡ Some q → P q
at_production P rules all n i q e =
    let within : i < length (get_or rules n []) = slice_get_within (get_or rules n []) i q e in
    let here : get_or (get_or rules n []) i q ≡ q = get_or_from_slice_get (get_or rules n []) i q q e in
    elim (cases_lt n (length rules)) [
      | inl less ↦ subst P here (all n [] less i q within)
      | inr past ↦ absurd (omega (arith, within, ap length (get_or_past rules n [] past)))
    ]

arity_least : (op : Op) → 1 ≤ arity op
arity_least Not = lit≤ tt
arity_least Neg = lit≤ tt
arity_least Ite = lit≤ tt
arity_least _ = lit≤ tt

nesting_const : (c : ℕ) → nesting (Const c) ≡ 0
unfolding nesting
nesting_const c = fold_at nesting_step (Const c) (Const-F c) (outs-Const c)

nesting_field : (i : ℕ) → nesting (Field i) ≡ 0
unfolding nesting
nesting_field i = fold_at nesting_step (Field i) (Field-F i) (outs-Field i)

nesting_node : (op : Op) (ts : List Term) → nesting (NodeTerm op ts) ≡ 1 + greatest (map nesting ts)
unfolding nesting
nesting_node op ts = fold_at nesting_step (NodeTerm op ts) (Node-F op ts) (outs-Node op ts)

no_deeper : (a b c d : ℕ) → a ≤ c → b ≤ d → max a b ≤ c + d
no_deeper a b c d h k = omega (arith, h, k)

deepest_few : (ts : List Term) → AllByRecursion (λ t. nesting t ≤ nodes t) ts →
    greatest (map nesting ts) ≤ sum_by nodes ts
deepest_few [] h = omega arith
deepest_few (t ∷ ts) h =
    let rest = greatest (map nesting ts) in
    let least = no_deeper (nesting t) rest (nodes t) (sum_by nodes ts) h.0 (deepest_few ts h.1) in
    omega (arith, least, sum_by-cons nodes t ts)

-- no more parentheses are open than there are nodes
nesting_few : (t : Term) → nesting t ≤ nodes t
nesting_few t = by_induction (λ x. nesting x ≤ nodes x) (record {
  const = λ c. omega (arith, nesting_const c);
  field = λ i. omega (arith, nesting_field i);
  node = λ op ts h. omega (arith, nesting_node op ts, nodes-Node op ts, deepest_few ts h);
}) t

-- many terms together, each of which is small
record AreSmall (most deepest : ℕ) (ts : List Term) : Type 0 where
  few : sum_by nodes ts ≤ length ts * most
  flat : greatest (map nesting ts) ≤ deepest

small_cons : (m k : ℕ) (t : Term) (ts : List Term) → IsSmall m k t → AreSmall m k ts → AreSmall m k (t ∷ ts)
small_cons m k t ts one more =
    record {
      few = omega (arith, sum_by-cons nodes t ts, one.few, more.few);
      flat = both (nesting t) (greatest (map nesting ts)) one.flat more.flat;
    }
  where
    both : (a b : ℕ) → a ≤ k → b ≤ k → max a b ≤ k
    both a b h l = omega (arith, h, l)

small_node : (d : ℕ) (op : Op) (ts : List Term) → length ts ≤ 3 → AreSmall (64 * 4 ^ d) (64 + d) ts →
    IsSmall (64 * 4 ^ suc d) (64 + suc d) (NodeTerm op ts)
small_node d op ts three are =
    let most : length ts * (64 * 4 ^ d) ≤ 3 * (64 * 4 ^ d) = mul-le-mul_right (64 * 4 ^ d) three in
    let four : 0 < 4 = omega arith in
    let some : 1 ≤ 4 ^ d = one-le-pow d 4 four in
    record {
      few = rw pow-succ' (omega (arith, nodes-Node op ts, are.few, most, some));
      flat = omega (arith, nesting_node op ts, are.flat);
    }

module _ (p : Problem) (formed : IsFormed p) where
  abbrev terms : List ℕ → List Tree → List Term
  terms names ts = terms_at names (map (λ t n. term_of p.rules n t) ts)

  is_formed : (n k : ℕ) (q : Production) → production_at p.rules n k ≡ Some q →
      IsTrue (is_production (length p.rules) q)
  is_formed = at_production (λ q. IsTrue (is_production (length p.rules) q)) p.rules formed.grammar.productions

  as_many : (n k : ℕ) (op : Op) (names : List ℕ) → production_at p.rules n k ≡ Some (Node op names) →
      length names ≡ arity op
  as_many n k op names e = eqb-true (length names) (arity op) (and_parts _ _ (is_formed n k (Node op names) e)).0

  -- trees of depth d + 1
  AreFlat : ℕ → Type 0
  AreFlat d = (n : ℕ) (t : Tree) → Derives p.rules (suc d) n t → IsSmall (64 * 4 ^ d) (64 + d) (term_of p.rules n t)

  leaf_small : (d n k : ℕ) (t : Term) → production_at p.rules n k ≡ Some (Leaf t) → IsSmall (64 * 4 ^ d) (64 + d) t
  leaf_small d n k t e =
      let few : nodes t ≤ 64 = leaf-small (length p.rules) t (is_formed n k (Leaf t) e) in
      let four : 0 < 4 = omega arith in
      record { few = omega (arith, few, one-le-pow d 4 four); flat = omega (arith, few, nesting_few t) }

  children_small : (d : ℕ) → AreFlat d → (names : List ℕ) (ts : List Tree) →
      AllZip (Derives p.rules (suc d)) names ts →
      AreSmall (64 * 4 ^ d) (64 + d) (terms names ts) × (length (terms names ts) ≡ length names)
  unfolding AreFlat
  children_small d each [] ts h = (record { few = omega arith; flat = omega arith }, refl)
  children_small d each (n ∷ names) [] h = absurd h
  children_small d each (n ∷ names) (t ∷ ts) h =
      let rest = children_small d each names ts h.1 in
      (small_cons (64 * 4 ^ d) (64 + d) (term_of p.rules n t) (terms names ts) (each n t h.0) rest.0, ap suc rest.1)

  -- no operator is at the end
  none_last : (n k : ℕ) (op : Op) (names : List ℕ) (ts : List Tree) →
      production_at p.rules n k ≡ Some (Node op names) →
      AllZip (Derives p.rules 0) names ts → ⊥
  none_last n k op [] ts e h = omega (arith, as_many n k op [] e, arity_least op)
  none_last n k op (m ∷ names) [] e h = h
  none_last n k op (m ∷ names) (t ∷ ts) e h = h.0

  last_small : (n k : ℕ) (ts : List Tree) (o : Option Production) → production_at p.rules n k ≡ o →
      AreDerived (Derives p.rules 0) o ts →
      IsSmall (64 * 4 ^ 0) (64 + 0) (term_by o (map (λ t n. term_of p.rules n t) ts))
  last_small n k ts None e h = absurd h
  last_small n k ts (Some (Leaf t)) e h = leaf_small 0 n k t e
  last_small n k ts (Some (Node op names)) e h = absurd (none_last n k op names ts e h)

  next_small : (d n k : ℕ) → AreFlat d → (ts : List Tree) (o : Option Production) → production_at p.rules n k ≡ o →
      AreDerived (Derives p.rules (suc d)) o ts →
      IsSmall (64 * 4 ^ suc d) (64 + suc d) (term_by o (map (λ t n. term_of p.rules n t) ts))
  next_small d n k each ts None e h = absurd h
  next_small d n k each ts (Some (Leaf t)) e h = leaf_small (suc d) n k t e
  next_small d n k each ts (Some (Node op names)) e h =
      let children = children_small d each names ts h in
      let three : length (terms names ts) ≤ 3 = omega (arith, children.1, as_many n k op names e, arity_most op) in
      small_node d op (terms names ts) three children.0

  trees_flat : (d : ℕ) → AreFlat d
  unfolding AreFlat
  trees_flat zero n t h =
      rw (term-by p.rules n t)
      (last_small n (production_of t) (children_of t) (production_at p.rules n (production_of t)) refl h)
  trees_flat (suc d) n t h =
      rw (term-by p.rules n t)
      (next_small d n (production_of t) (trees_flat d) (children_of t)
      (production_at p.rules n (production_of t)) refl h)

  -- 64 * 4 ^ 4 nodes at most
  tree_small : (d : ℕ) → d ≤ 5 → (n : ℕ) (t : Tree) → Derives p.rules d n t → IsSmall 16384 128 (term_of p.rules n t)
  unfolding AreFlat
  tree_small zero l n t h = absurd h
  tree_small (suc d) l n t h =
      let is = trees_flat d n t h in
      let four : 0 < 4 = omega arith in
      let deep : d ≤ 4 = omega (arith, l) in
      record { few = omega (arith, is.few, pow-le-pow_right four deep); flat = omega (arith, is.flat, deep) }

  trees_small : (starts : List ℕ) (ts : List Tree) → AllZip (Derives p.rules p.depth) starts ts →
      All (IsSmall 16384 128) (terms starts ts)
  trees_small [] ts h = All-nil (IsSmall 16384 128)
  trees_small (n ∷ starts) [] h = absurd h
  trees_small (n ∷ starts) (t ∷ ts) h =
      All-cons (IsSmall 16384 128) (term_of p.rules n t) (terms starts ts)
      (tree_small p.depth formed.grammar.most_depth n t h.0) (trees_small starts ts h.1)

  -- the terms of a transformer are small
  pub transformers_are_small : (derived : List Term) → AreDerivable p.rules p.starts p.depth derived →
      All (IsSmall 16384 128) derived
  transformers_are_small derived is =
      subst (All (IsSmall 16384 128)) (sym is.give) (trees_small p.starts is.trees is.derive)
