-- What a table of rules has.
use Rattle.std.proofs.Common.{◌≡◌, ℕ, zero, suc, ◌+◌, ◌<◌, ◌≤◌, List, [], ◌∷◌, ◌++◌, Some, map, drop, length, get_or}
use Rattle.std.proofs.Common.{refl, sym, ◌∙◌, ap, arith}
use Rattle.std.specs.Prelude.{All, IsTrue, slice_get, slice_index_or}
use Rattle.std.specs.List.{AllByRecursion}
use Rattle.std.proofs.lemmas.List.Elements.{All-get_or, All-from_recursion, recursion_from_All}
use Rattle.std.proofs.lemmas.List.Sums.{sum_by-cons}
use Rattle.am_tree.specs.declared.grammar.Production.{Production}
use Rattle.am_tree.specs.Grammars.{is_production, IsGrammar}
use Rattle.am_tree.specs.Trees.{Rules}
use Rattle.am_tree.specs.Slots.{arguments, shared, next_level}
use Rattle.am_tree.proofs.Laws.{drop-from, short-production, inside, few, next-inside}
use Rattle.am_slot.specs.declared.rules.Rule.{Rule}
use Rattle.am_slot.specs.Selectors.{width, widths, room}
use Rattle.am_slot.specs.inside.Rules.{AreWhole}

-- an item of a list, as a function shows it
pub at-map : {A B : Type 0} (f : A → B) (xs : List A) (i : ℕ) (x : A) (d : B) → slice_get xs i ≡ Some x →
    f x ≡ slice_index_or (map f xs) i d
at-map f [] i x d h = cc
at-map f (y ∷ ys) zero x d h = let is : y ≡ x = cc in sym (ap f is)
at-map f (y ∷ ys) (suc i) x d h = at-map f ys i x d h

-- a nonterminal of the rules has at most 64 productions
pub few_productions : (rules : Rules) → AreWhole rules → (n : ℕ) → n < length rules → (ps : List Production) →
    ps ≡ slice_index_or rules n [] →
    length ps ≤ 64
few_productions rules w n l ps e = rw e (All-get_or (λ ps. length ps ≤ 64) rules n [] l w.few)

-- and each is a production of the grammar
pub whole_productions : (rules : Rules) → AreWhole rules → (n : ℕ) → n < length rules → (ps : List Production) →
    ps ≡ slice_index_or rules n [] →
    All (λ p. IsTrue (is_production (length rules) p)) ps
whole_productions rules w n l ps e =
    rw e (All-get_or (All (λ p. IsTrue (is_production (length rules) p))) rules n [] l w.productions)

-- the rules of a grammar are whole
pub whole : (rules : Rules) (starts : List ℕ) (depth : ℕ) → IsGrammar rules starts depth → AreWhole rules
whole rules starts depth g = record {
  productions = g.productions;
  inside = inside rules starts depth g;
  few = All-from_recursion (λ ps. length ps ≤ 64) rules (few rules starts depth g);
}

short-list : (count : ℕ) (ps : List Production) → AllByRecursion (λ p. IsTrue (is_production count p)) ps →
    AllByRecursion (λ p. length (arguments p) ≤ 3) ps
short-list count [] h = tt
short-list count (p ∷ ps) h = (short-production count p h.0, short-list count ps h.1)

-- productions have at most three arguments each
pub short : (count : ℕ) (ps : List Production) → All (λ p. IsTrue (is_production count p)) ps →
    All (λ p. length (arguments p) ≤ 3) ps
short count ps h =
    All-from_recursion (λ p. length (arguments p) ≤ 3) ps
    (short-list count ps (recursion_from_All (λ p. IsTrue (is_production count p)) ps h))

-- one nonterminal more

module _ (rules : Rules) (below i n : ℕ) (ns : List ℕ) (l : i < length ns) (e : n ≡ get_or ns i n) where
  pub widths-from : widths rules below (drop i ns) ≡ width rules below n + widths rules below (drop (i + 1) ns)
  widths-from = ap (widths rules below) (drop-from i n ns l e) ∙ sum_by-cons (width rules below) n (drop (i + 1) ns)

  pub next-from : next_level rules below (drop i ns)
      ≡ map (λ a. a.symbol) (shared rules below n) ++ next_level rules below (drop (i + 1) ns)
  next-from = ap (next_level rules below) (drop-from i n ns l e)

-- the nonterminals of the next level are some of the rules'

-- the nonterminals of the next level are some of the rules'
pub next-whole : (rules : Rules) (below : ℕ) (ns : List ℕ) → AreWhole rules →
    All (λ n. n < length rules) (next_level rules below ns)
next-whole rules below ns w = next-inside (length rules) rules below ns w.inside

-- levels and those below them

-- on the last level the selectors that are left are the level's own
pub room-zero : (rules : Rules) (below : ℕ) (ns : List ℕ) → below ≡ 0 → 0 + widths rules below ns ≡ room rules below ns
unfolding room
room-zero rules zero ns e = omega arith
room-zero rules (suc below) ns e = absurd (omega (arith, e))

pub room-last : (rules : Rules) (ns : List ℕ) → room rules 0 ns ≡ widths rules 0 ns
unfolding room
room-last rules ns = refl

-- all rules, as a table holds them and as contracts see them

module _ (P : List Production → Type 0) where
  shown-list : (rs : List Rule) → AllByRecursion (λ r. P r.productions) rs →
      AllByRecursion P (map (λ r. r.productions) rs)
  shown-list [] h = tt
  shown-list (r ∷ rs) h = (h.0, shown-list rs h.1)

  held-list : (rs : List Rule) → AllByRecursion P (map (λ r. r.productions) rs) →
      AllByRecursion (λ r. P r.productions) rs
  held-list [] h = tt
  held-list (r ∷ rs) h = (h.0, held-list rs h.1)

  -- what holds of the productions of each rule holds of each list of productions
  pub all-shown : (rs : List Rule) → All (λ r. P r.productions) rs → All P (map (λ r. r.productions) rs)
  all-shown rs h =
      All-from_recursion P (map (λ (r : Rule). r.productions) rs)
      (shown-list rs (recursion_from_All (λ (r : Rule). P r.productions) rs h))

  -- the other way round
  pub all-held : (rs : List Rule) → All P (map (λ r. r.productions) rs) → All (λ r. P r.productions) rs
  all-held rs h =
      All-from_recursion (λ (r : Rule). P r.productions) rs
      (held-list rs (recursion_from_All P (map (λ (r : Rule). r.productions) rs) h))
