-- Sums over slots, level by level.
use Rattle.std.proofs.Common.{◌≡◌, ℕ, zero, suc, ◌+◌, ◌*◌, ◌<◌, ◌≤◌, List, [], ◌∷◌, ◌++◌, length, map, sum_by, refl}
use Rattle.std.proofs.Common.{◌∙◌, ap, arith, add-one}
use Rattle.std.specs.Prelude.{slice_index_or}
use Rattle.std.specs.List.{AllByRecursion, filter}
use Rattle.std.proofs.lemmas.Grind.{flat_map-append}
use Rattle.std.proofs.lemmas.List.{append-nil}
use Rattle.std.proofs.lemmas.List.Sums.{sum_by-cons, sum_by-append}
use Rattle.am_tree.specs.declared.grammar.Production.{Production}
use Rattle.am_tree.specs.declared.grammar.Production.TheVariants.{Leaf, Node}
use Rattle.am_tree.specs.declared.slots.Argument.{Argument}
use Rattle.am_tree.specs.Trees.{Rules}
use Rattle.am_tree.specs.Slots.{numbered, is_offered, offered, shared_by, shared, next_level, slots_from, AreInside}
use Rattle.am_tree.specs.Weights.{slot_weight, block_weight}
use Rattle.am_tree.specs.inside.Totals.{total}
use Rattle.am_tree.proofs.Inside.{next-below, each-inside, length-next_slots}

-- joined levels add up

next-append : (rules : Rules) (below : ℕ) (ns ms : List ℕ) →
    next_level rules below (ns ++ ms) ≡ next_level rules below ns ++ next_level rules below ms
next-append rules below ns ms = flat_map-append (λ n. map (λ (a : Argument). a.symbol) (shared rules below n)) ns ms

module _ (rules : Rules) (last inner : ℕ → ℕ) where
  total-append : (below : ℕ) (ns ms : List ℕ) →
      total rules last inner below (ns ++ ms) ≡ total rules last inner below ns + total rules last inner below ms
  unfolding total
  total-append zero ns ms = sum_by-append last ns ms
  total-append (suc below) ns ms =
      let here = sum_by-append inner ns ms in
      let below_them =
      ap (total rules last inner below) (next-append rules (suc below) ns ms)
      ∙ total-append below (next_level rules (suc below) ns) (next_level rules (suc below) ms) in
      omega (arith, here, below_them)

  total-nil : (below : ℕ) → total rules last inner below [] ≡ 0
  unfolding total
  total-nil zero = refl
  total-nil (suc below) =
      let rest : total rules last inner below (next_level rules (suc below) []) ≡ 0 = total-nil below in
      omega (arith, rest)

  -- a level counts what its nonterminals count
  pub total-sum : (below : ℕ) (ns : List ℕ) →
      total rules last inner below ns ≡ sum_by (λ n. total rules last inner below (n ∷ [])) ns
  total-sum below [] = total-nil below
  total-sum below (n ∷ ns) =
      omega (
        arith,
        total-append below (n ∷ []) ns,
        total-sum below ns,
        sum_by-cons (λ m. total rules last inner below (m ∷ [])) n ns,
      )

  sum-symbols : (f : ℕ → ℕ) (xs : List Argument) →
      sum_by f (map (λ (a : Argument). a.symbol) xs) ≡ sum_by (λ (a : Argument). f a.symbol) xs
  sum-symbols f [] = refl
  sum-symbols f (x ∷ xs) =
      omega (
        arith,
        sum_by-cons f x.symbol (map (λ (a : Argument). a.symbol) xs),
        sum_by-cons (λ (a : Argument). f a.symbol) x xs,
        sum-symbols f xs,
      )

  -- a nonterminal counts itself and its children
  pub total-one : (below n : ℕ) →
      total rules last inner (below + 1) (n ∷ [])
      ≡ inner n
      + sum_by (λ (a : Argument). total rules last inner below (a.symbol ∷ []))
      (shared_by 1 (slice_index_or rules n []))
  unfolding total
  total-one below n =
      let symbols = map (λ (a : Argument). a.symbol) (shared_by 1 (slice_index_or rules n [])) in
      rw (add-one, append-nil)
      (omega (
        arith,
        sum_by-cons inner n [],
        total-sum below symbols,
        sum-symbols (λ m. total rules last inner below (m ∷ [])) (shared_by 1 (slice_index_or rules n [])),
      ))

  -- on the last level a nonterminal counts itself
  pub total-last : (n : ℕ) → total rules last inner 0 (n ∷ []) ≡ last n
  unfolding total
  total-last n = omega (arith, sum_by-cons last n [])

-- what is counted matters at the grammar's nonterminals alone

-- a sum over numbers below k needs the summed values below k alone
pub sum-same : (k : ℕ) (f g : ℕ → ℕ) (ns : List ℕ) → ((n : ℕ) → n < k → f n ≡ g n) → AllByRecursion (λ n. n < k) ns →
    sum_by f ns ≡ sum_by g ns
sum-same k f g [] h l = refl
sum-same k f g (n ∷ ns) h l = omega (arith, sum_by-cons f n ns, sum_by-cons g n ns, h n l.0, sum-same k f g ns h l.1)

-- a sum over slots needs the values at the grammar's nonterminals alone
pub total-same : (rules : Rules) (k : ℕ) (f g f' g' : ℕ → ℕ) → ((n : ℕ) → n < k → f n ≡ f' n) →
    ((n : ℕ) → n < k → g n ≡ g' n) → AreInside k rules →
    (below : ℕ) (ns : List ℕ) → AllByRecursion (λ n. n < k) ns → total rules f g below ns ≡ total rules f' g' below ns
unfolding total
total-same rules k f g f' g' p q inside zero ns l = sum-same k f f' ns p l
total-same rules k f g f' g' p q inside (suc below) ns l =
    omega (
      arith,
      sum-same k g g' ns q l,
      total-same rules k f g f' g' p q inside below (next_level rules (suc below) ns)
          (next-below k rules (suc below) ns (each-inside k rules inside)),
    )

-- a sum over arguments below k needs the values below k alone
pub children-same : (k : ℕ) (f g : ℕ → ℕ) (xs : List Argument) → ((n : ℕ) → n < k → f n ≡ g n) →
    AllByRecursion (λ (a : Argument). a.symbol < k) xs →
    sum_by (λ (a : Argument). f a.symbol) xs ≡ sum_by (λ (a : Argument). g a.symbol) xs
children-same k f g [] h l = refl
children-same k f g (x ∷ xs) h l =
    omega (
      arith,
      sum_by-cons (λ (a : Argument). f a.symbol) x xs,
      sum_by-cons (λ (a : Argument). g a.symbol) x xs,
      h x.symbol l.0,
      children-same k f g xs h l.1,
    )

-- the number of slots

sum-ones : (ns : List ℕ) → sum_by (λ _. 1) ns ≡ length ns
sum-ones [] = refl
sum-ones (n ∷ ns) = omega (arith, sum_by-cons (λ _. 1) n ns, sum-ones ns)

-- the slots are counted by a sum of ones
pub total-ones : (rules : Rules) (below level first : ℕ) (ns : List ℕ) →
    length (slots_from rules below level first ns) ≡ total rules (λ _. 1) (λ _. 1) below ns
unfolding total
total-ones rules zero level first ns = omega (arith, length-next_slots rules 0 level first ns, sum-ones ns)
total-ones rules (suc below) level first ns =
    omega (
      arith,
      length-next_slots rules (suc below) level first ns,
      sum-ones ns,
      total-ones rules below (level + 1) (first + length ns) (next_level rules (suc below) ns),
    )

-- the block's weight

filter-same : (b : ℕ) (i : ℕ) (ps : List Production) →
    filter (λ p. is_offered (suc b) p.production) (numbered i ps)
    ≡ filter (λ p. is_offered 1 p.production) (numbered i ps)
filter-same b i [] = refl
filter-same b i (Leaf t ∷ ps) =
    ap (λ rest. (record { number = i; production = Leaf t }) ∷ rest) (filter-same b (i + 1) ps)
filter-same b i (Node op names ∷ ps) =
    ap (λ rest. (record { number = i; production = Node op names }) ∷ rest) (filter-same b (i + 1) ps)

-- the gates of a nonterminal's slot with so many levels below it
abbrev pub weight_at : Rules → ℕ → ℕ → ℕ → ℕ
weight_at rules w below n = slot_weight w (offered rules below n)

sum-weights : (rules : Rules) (w b : ℕ) (ns : List ℕ) →
    sum_by (weight_at rules w (suc b)) ns ≡ sum_by (weight_at rules w 1) ns
sum-weights rules w b [] = refl
sum-weights rules w b (n ∷ ns) =
    omega (
      arith,
      sum_by-cons (weight_at rules w (suc b)) n ns,
      sum_by-cons (weight_at rules w 1) n ns,
      ap (slot_weight w) (filter-same b 0 (slice_index_or rules n [])),
      sum-weights rules w b ns,
    )

-- the gates of a block are a sum over slots
pub total-weights : (rules : Rules) (w below : ℕ) (ns : List ℕ) →
    block_weight rules w below ns ≡ total rules (weight_at rules w 0) (weight_at rules w 1) below ns
unfolding total block_weight
total-weights rules w zero ns = refl
total-weights rules w (suc below) ns =
    omega (arith, sum-weights rules w below ns, total-weights rules w below (next_level rules (suc below) ns))

-- a sum over slots that count at most 2 ^ 21 each

sum-most : (f : ℕ → ℕ) (ns : List ℕ) → ((n : ℕ) → f n ≤ 2097152) → sum_by f ns ≤ 2097152 * sum_by (λ _. 1) ns
sum-most f [] h = omega arith
sum-most f (n ∷ ns) h = omega (arith, sum_by-cons f n ns, sum_by-cons (λ _. 1) n ns, h n, sum-most f ns h)

-- a sum over slots, each of which counts at most 2 ^ 21
pub total-most : (rules : Rules) (f g : ℕ → ℕ) → ((n : ℕ) → f n ≤ 2097152) → ((n : ℕ) → g n ≤ 2097152) →
    (below : ℕ) (ns : List ℕ) → total rules f g below ns ≤ 2097152 * total rules (λ _. 1) (λ _. 1) below ns
unfolding total
total-most rules f g p q zero ns = sum-most f ns p
total-most rules f g p q (suc below) ns =
    omega (arith, sum-most g ns q, total-most rules f g p q below (next_level rules (suc below) ns))
