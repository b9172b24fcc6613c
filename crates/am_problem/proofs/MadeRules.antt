-- The rules of made problems: they are those of a small grammar, and from them derive the words of the greatest
-- abstract value.
use Rattle.std.proofs.Common.{◌≡◌, ℕ, zero, suc, ◌+◌, ◌-◌, ◌*◌, ◌^◌, ◌<◌, ◌≤◌, List, [], ◌∷◌, length, map}
use Rattle.std.proofs.Common.{All, IsTrue, Some, refl, sym, subst, ap, ◌∙◌, arith, lit≤}
use Rattle.std.specs.List.{AllByRecursion, AllZip, range_with_len}
use Rattle.std.specs.Prelude.{sum_by}
use Rattle.std.proofs.lemmas.Bool.{and_from, eq-eqb, lt-ltb}
use Rattle.std.proofs.lemmas.Nat.{mul-le}
use Rattle.am_bv.proofs.Laws.{arities-Const, arities-Field, fits-Const, fits-Field, nodes-Const, nodes-Field}
use Rattle.am_bv.proofs.Laws.{weight-Const, weight-Field}
use Rattle.am_bv.specs.Operators.{arity, weight_of}
use Rattle.am_bv.specs.declared.op.Op.{Op}
use Rattle.am_bv.specs.declared.op.Op.TheVariants.{Ashr, Lshr, Mul, Shl, Udiv, Urem}
use Rattle.am_bv.specs.declared.term.Term.{Term}
use Rattle.am_bv.specs.declared.term.Term.TheVariants.{Const, Field}
use Rattle.am_tree.proofs.Laws.{Derives-tree, small-leaf, term_of-tree}
use Rattle.am_tree.specs.Grammars.{IsGrammar, is_production}
use Rattle.am_tree.specs.Slots.{layout_of, slots_from}
use Rattle.am_tree.specs.Trees.{AreDerived, AreTrees, Derives, Rules, production_at, term_by, term_of, terms_of, tree}
use Rattle.am_tree.specs.Weights.{block_weight}
use Rattle.am_tree.specs.declared.grammar.Production.{Production}
use Rattle.am_tree.specs.declared.grammar.Production.TheVariants.{Leaf}
use Rattle.am_tree.specs.declared.tree.Tree.{Tree}
use Rattle.am_problem.specs.Generator.{pair_production, rules_of}
use Rattle.am_problem.specs.Limits.{IsLeafOver}
use Rattle.am_problem.specs.Problem.{AreDerivable}
use Rattle.am_problem.proofs.Lists.{all_more, all_places}

-- ---- operators

-- an operator of two arguments
pub record PairOperator : Type 0 where
  pub op : Op
  pub pair : arity op ≡ 2

-- no operator is heavier than a division
pub weight_of-most : (w : ℕ) → w ≤ 8 → (op : Op) → weight_of w op ≤ 288
weight_of-most w few Mul =
    omega (arith, mul-le w (w + 1) 8 9 few (omega arith), mul-le (3 * w) w 24 8 (omega arith) few)
weight_of-most w few Udiv = omega (arith, mul-le (4 * w) (w + 1) 32 9 (omega arith) (omega arith))
weight_of-most w few Urem = omega (arith, mul-le (4 * w) (w + 1) 32 9 (omega arith) (omega arith))
weight_of-most w few Shl = omega (arith, mul-le w w 8 8 few few)
weight_of-most w few Lshr = omega (arith, mul-le w w 8 8 few few)
weight_of-most w few Ashr = omega (arith, mul-le w w 8 8 few few)
weight_of-most w few _ = omega arith

-- ---- productions

-- a production of a grammar with so many nonterminals, over so many fields
record IsGood (count w fields : ℕ) (p : Production) : Type 0 where
  production : IsTrue (is_production count p)
  over : IsLeafOver w fields p

abbrev AreGood : ℕ → ℕ → ℕ → Rules → Type 0
AreGood count w fields rules = AllByRecursion (AllByRecursion (IsGood count w fields)) rules

module _ (count w fields : ℕ) where
  const_good : (c : ℕ) → c < 2 ^ w → IsGood count w fields (Leaf (Const c))
  const_good c word = record {
    production = small-leaf count (Const c) (omega (arith, nodes-Const c)) (arities-Const c);
    over = fits-Const w fields c ∙ lt-ltb c (2 ^ w) word;
  }

  field_good : (i : ℕ) → i < fields → IsGood count w fields (Leaf (Field i))
  field_good i below = record {
    production = small-leaf count (Field i) (omega (arith, nodes-Field i)) (arities-Field i);
    over = fits-Field w fields i ∙ lt-ltb i fields below;
  }

  pair_good : (argument : ℕ) → argument < count → (o : PairOperator) →
      IsGood count w fields (pair_production argument o.op)
  pair_good argument below o = record {
    production =
        let known = lt-ltb argument count below in
        and_from _ _ (eq-eqb 2 (arity o.op) (sym o.pair)) (and_from _ _ known (and_from _ _ known refl));
    over = tt;
  }

  good_productions : (rules : Rules) → AreGood count w fields rules →
      All (All (λ p. IsTrue (is_production count p))) rules
  good_productions rules good =
      all_places _ rules
      (all_more _ _ (λ ps each. all_places _ ps (all_more _ _ (λ p is. is.production) ps each)) rules good)

  good_leaves : (rules : Rules) → AreGood count w fields rules → All (All (IsLeafOver w fields)) rules
  good_leaves rules good =
      all_places _ rules (all_more _ _ (λ ps each. all_places _ ps (all_more _ _ (λ p is. is.over) ps each)) rules good)

-- ---- leaves that derive

-- the term is the first production of the nonterminal
abbrev IsFirstLeaf : Rules → ℕ → Term → Type 0
IsFirstLeaf rules n t = production_at rules n 0 ≡ Some (Leaf t)

module _ (rules : Rules) (depth : ℕ) where
  abbrev firsts : List ℕ → List Tree
  firsts ns = map (λ _. tree 0 []) ns

  firsts_derive : (ns : List ℕ) (ts : List Term) → AllZip (IsFirstLeaf rules) ns ts →
      AreTrees rules ns (suc depth) (firsts ns)
  firsts_derive [] [] first = tt
  firsts_derive [] (t ∷ ts) first = absurd first
  firsts_derive (n ∷ ns) [] first = absurd first
  firsts_derive (n ∷ ns) (t ∷ ts) first =
      let derived = subst (λ p. AreDerived (Derives rules depth) p []) (sym first.0) refl in
      (Derives-tree rules depth n 0 [] derived, firsts_derive ns ts first.1)

  firsts_give : (ns : List ℕ) (ts : List Term) → AllZip (IsFirstLeaf rules) ns ts → ts ≡ terms_of rules ns (firsts ns)
  firsts_give [] [] first = refl
  firsts_give [] (t ∷ ts) first = absurd first
  firsts_give (n ∷ ns) [] first = absurd first
  firsts_give (n ∷ ns) (t ∷ ts) first =
      let leaf : t ≡ term_of rules n (tree 0 []) = sym (term_of-tree rules n 0 [] ∙ ap (λ p. term_by p []) first.0) in
      ap (λ s. s ∷ ts) leaf ∙ ap (λ ss. term_of rules n (tree 0 []) ∷ ss) (firsts_give ns ts first.1)

  -- the first productions of the starts derive, where they are leaves
  firsts-derivable : (starts : List ℕ) (ts : List Term) → AllZip (IsFirstLeaf rules) starts ts →
      AreDerivable rules starts (suc depth) ts
  firsts-derivable starts ts first = record {
    trees = firsts starts;
    derive = firsts_derive starts ts first;
    give = firsts_give starts ts first;
  }

-- ---- grammars

-- the rules of a small grammar for a domain with so many fields, from which the constants derive
pub record IsSmallGrammar (w fields depth : ℕ) (top : List ℕ) (rules : Rules) : Type 0 where
  pub grammar : IsGrammar rules (range_with_len 0 fields) depth
  pub leaves : All (All (IsLeafOver w (2 * fields))) rules
  pub many : length rules ≡ fields + 1
  pub slots : length (layout_of rules (range_with_len 0 fields) depth) ≤ 14
  pub block : block_weight rules w (depth - 1) (range_with_len 0 fields) ≤ 4000
  pub constants : AreDerivable rules (range_with_len 0 fields) depth (map Const top)

-- the same at each depth that is chosen
record IsSmallAtBoth (w fields : ℕ) (top : List ℕ) (rules : Rules) : Type 0 where
  good : AreGood (length rules) w (2 * fields) rules
  few_productions : sum_by length rules ≤ 64
  few_fields : fields ≤ 2
  starts : AllByRecursion (λ n. n < length rules) (range_with_len 0 fields)
  few_starts : length (range_with_len 0 fields) ≤ 4
  many : length rules ≡ fields + 1
  slots_2 : length (layout_of rules (range_with_len 0 fields) 2) ≤ 14
  slots_3 : length (layout_of rules (range_with_len 0 fields) 3) ≤ 14
  block_2 : block_weight rules w 1 (range_with_len 0 fields) ≤ 4000
  block_3 : block_weight rules w 2 (range_with_len 0 fields) ≤ 4000
  first : AllZip (IsFirstLeaf rules) (range_with_len 0 fields) (map Const top)

module _ (w fields : ℕ) (top : List ℕ) (rules : Rules) (small : IsSmallAtBoth w fields top rules) where
  grammar_of : (depth : ℕ) → 1 ≤ depth → depth ≤ 5 → IsGrammar rules (range_with_len 0 fields) depth
  grammar_of depth some most = record {
    productions = good_productions (length rules) w (2 * fields) rules small.good;
    starts_in = all_places (λ n. n < length rules) (range_with_len 0 fields) small.starts;
    few_rules = omega (arith, small.many, small.few_fields);
    few_productions = small.few_productions;
    few_starts = small.few_starts;
    some_depth = some;
    most_depth = most;
  }

  small_at : (digit : ℕ) → digit < 2 → IsSmallGrammar w fields (2 + digit) top rules
  small_at zero below = record {
    grammar = grammar_of 2 (lit≤ tt) (lit≤ tt);
    leaves = good_leaves (length rules) w (2 * fields) rules small.good;
    many = small.many;
    slots = small.slots_2;
    block = small.block_2;
    constants = firsts-derivable rules 1 (range_with_len 0 fields) (map Const top) small.first;
  }
  small_at (suc zero) below = record {
    grammar = grammar_of 3 (lit≤ tt) (lit≤ tt);
    leaves = good_leaves (length rules) w (2 * fields) rules small.good;
    many = small.many;
    slots = small.slots_3;
    block = small.block_3;
    constants = firsts-derivable rules 2 (range_with_len 0 fields) (map Const top) small.first;
  }
  small_at (suc (suc digit)) below = absurd (omega (arith, below))

module _ (w : ℕ) (few : w ≤ 8) (o1 o2 o3 o4 : PairOperator) where
  -- the rules for a domain whose greatest value has these words
  abbrev pub rules_for : List ℕ → Rules
  rules_for top = rules_of top (length top) (o1.op ∷ o2.op ∷ o3.op ∷ []) o4.op

  module _ (c d : ℕ) (low : c < 2 ^ w) (high : d < 2 ^ w) where
    abbrev two : Rules
    two = rules_for (c ∷ d ∷ [])

    two_good : AreGood 3 w 4 two
    two_good =
        let pair = pair_good 3 w 4 2 (omega arith) in
        let first = field_good 3 w 4 0 (omega arith) in
        let second = field_good 3 w 4 1 (omega arith) in
        let third = field_good 3 w 4 2 (omega arith) in
        let fourth = field_good 3 w 4 3 (omega arith) in
        let nothing = const_good 3 w 4 0 (omega (arith, low)) in (
          (const_good 3 w 4 c low, (pair o1, (pair o2, (pair o3, tt)))),
          (
            (const_good 3 w 4 d high, (pair o1, (pair o2, (pair o3, tt)))),
            (
              (first, (second, (third, (fourth, (nothing, (pair o4, tt)))))),
              tt,
            ),
          ),
        )

    two_slots_2 : length (layout_of two (0 ∷ 1 ∷ []) 2) ≡ 6
    unfolding slots_from
    two_slots_2 = refl

    two_slots_3 : length (layout_of two (0 ∷ 1 ∷ []) 3) ≡ 14
    unfolding slots_from
    two_slots_3 = refl

    two_block_2 : block_weight two w 1 (0 ∷ 1 ∷ []) ≤ 4000
    unfolding block_weight
    two_block_2 = omega (arith, weight-Const, weight-Field, weight_of-most w few)

    two_block_3 : block_weight two w 2 (0 ∷ 1 ∷ []) ≤ 4000
    unfolding block_weight
    two_block_3 = omega (arith, weight-Const, weight-Field, weight_of-most w few)

    -- those of a domain with two fields
    pub two_small : (digit : ℕ) → digit < 2 → IsSmallGrammar w 2 (2 + digit) (c ∷ d ∷ []) two
    two_small = small_at w 2 (c ∷ d ∷ []) two (record {
      good = two_good;
      few_productions = lit≤ tt;
      few_fields = lit≤ tt;
      starts = (omega arith, (omega arith, tt));
      few_starts = lit≤ tt;
      many = refl;
      slots_2 = omega (arith, two_slots_2);
      slots_3 = omega (arith, two_slots_3);
      block_2 = two_block_2;
      block_3 = two_block_3;
      first = (refl, (refl, tt));
    })

  module _ (c : ℕ) (word : c < 2 ^ w) where
    abbrev one : Rules
    one = rules_for (c ∷ [])

    one_good : AreGood 2 w 2 one
    one_good =
        let pair = pair_good 2 w 2 1 (omega arith) in
        let field = field_good 2 w 2 in
        let nothing = const_good 2 w 2 0 (omega (arith, word)) in (
          (const_good 2 w 2 c word, (pair o1, (pair o2, (pair o3, tt)))),
          ((field 0 (omega arith), (field 1 (omega arith), (nothing, (pair o4, tt)))), tt),
        )

    one_slots_2 : length (layout_of one (0 ∷ []) 2) ≡ 3
    unfolding slots_from
    one_slots_2 = refl

    one_slots_3 : length (layout_of one (0 ∷ []) 3) ≡ 7
    unfolding slots_from
    one_slots_3 = refl

    one_block_2 : block_weight one w 1 (0 ∷ []) ≤ 4000
    unfolding block_weight
    one_block_2 = omega (arith, weight-Const, weight-Field, weight_of-most w few)

    one_block_3 : block_weight one w 2 (0 ∷ []) ≤ 4000
    unfolding block_weight
    one_block_3 = omega (arith, weight-Const, weight-Field, weight_of-most w few)

    -- those of a domain with one field
    pub one_small : (digit : ℕ) → digit < 2 → IsSmallGrammar w 1 (2 + digit) (c ∷ []) one
    one_small = small_at w 1 (c ∷ []) one (record {
      good = one_good;
      few_productions = lit≤ tt;
      few_fields = lit≤ tt;
      starts = (omega arith, tt);
      few_starts = lit≤ tt;
      many = refl;
      slots_2 = omega (arith, one_slots_2);
      slots_3 = omega (arith, one_slots_3);
      block_2 = one_block_2;
      block_3 = one_block_3;
      first = (refl, tt);
    })
