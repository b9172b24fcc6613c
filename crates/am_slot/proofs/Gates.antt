-- A block makes as many gates as it weighs, and no input.
use Rattle.std.proofs.Common.{◌≡◌, ℕ, zero, suc, ◌+◌, ◌*◌, ◌/◌, ◌<◌, ◌≤◌, List, [], ◌∷◌, Some, map, take, drop, length}
use Rattle.std.proofs.Common.{refl, sym, ◌∙◌, ap, subst, arith}
use Rattle.std.specs.Prelude.{All}
use Rattle.std.specs.List.{AllByRecursion}
use Rattle.std.proofs.lemmas.List.Sums.{sum_by-cons}
use Rattle.std.proofs.lemmas.List.Elements.{All-nil, All-cons}
use Rattle.am_gate.specs.Build.{Place}
use Rattle.am_gate.specs.Circuit.{IsLiteral}
use Rattle.am_gate.specs.Promises.{MakesGates}
use Rattle.am_gate.proofs.Laws.{Makes-bind, Makes-answer}
use Rattle.am_blast.specs.declared.bitwise.Gate.TheVariants.{Choose}
use Rattle.am_blast.specs.Words.{IsWord, zeros}
use Rattle.am_blast.specs.Bitwise.{bitwise}
use Rattle.am_blast.proofs.Laws.{IsWord-later, IsWord-zeros, Makes-bitwise, Makes-blasted, circuit}
use Rattle.am_tree.specs.declared.grammar.Production.{Production}
use Rattle.am_tree.specs.declared.grammar.Production.TheVariants.{Leaf, Node}
use Rattle.am_tree.specs.Trees.{Rules, production_at}
use Rattle.am_tree.specs.declared.slots.Argument.{Argument}
use Rattle.am_tree.specs.Slots.{Numbered, offered, positioned, arguments, shared, next_level, at_argument}
use Rattle.am_tree.specs.Weights.{production_weight, slot_weight, level_weight, block_weight}
use Rattle.am_tree.proofs.Laws.{IsOffered, Stands, are_offered}
use Rattle.am_slot.specs.Selectors.{width, widths, room, selector}
use Rattle.am_slot.specs.Blocks.{production_word, chosen_word, slot_word, level_words, words}
use Rattle.am_slot.proofs.Rows.{AllThree, front, behind, found}
use Rattle.am_slot.specs.inside.Fits.{SuitsArity}

pairs_of : (rules : Rules) (below n : ℕ) (ps : List Numbered) → AllByRecursion (IsOffered rules below n) ps →
    AllByRecursion
    (λ p. (production_at rules n p.number ≡ Some p.production)
    × AllByRecursion (Stands (shared rules below n)) (arguments p.production))
    ps
pairs_of rules below n [] h = tt
pairs_of rules below n (p ∷ ps) h = ((h.0.at, h.0.inside), pairs_of rules below n ps h.1)

module _ (rules : Rules) (w : ℕ) (one : 1 ≤ w) (fields : List (List ℕ))
    (suits : (n k : ℕ) (p : Production) → production_at rules n k ≡ Some p → SuitsArity w (length fields) p) where
  abbrev Word : ℕ → ℕ → List ℕ → List ℕ → Type 0
  Word vars n x y = IsWord w vars x

  -- a word for each nonterminal
  abbrev pub Worded : ℕ → List ℕ → List (List ℕ) → Type 0
  Worded vars ns xs = AllThree (Word vars) ns xs xs

  worded-later : (n m : ℕ) → n ≤ m → (ns : List ℕ) (xs : List (List ℕ)) → Worded n ns xs → Worded m ns xs
  worded-later n m l [] [] h = tt
  worded-later n m l [] (x ∷ xs) h = absurd h
  worded-later n m l (k ∷ ns) [] h = absurd h
  worded-later n m l (k ∷ ns) (x ∷ xs) h = (IsWord-later w n m x l h.0, worded-later n m l ns xs h.1)

  fields-later : (n m : ℕ) → n ≤ m → All (IsWord w n) fields → All (IsWord w m) fields
  fields-later n m l h = λ i d lt. IsWord-later w n m _ l (h i d lt)

  symbol : Argument → ℕ
  symbol a = a.symbol

  args_of : (vars : ℕ) (ks : List Argument) (xs : List (List ℕ)) → Worded vars (map (λ a. a.symbol) ks) xs →
      (rest : List Argument) → AllByRecursion (Stands ks) rest →
      All (IsWord w vars) (map (at_argument [] ks xs) rest)
  args_of vars ks xs h [] s = All-nil (IsWord w vars)
  args_of vars ks xs h (a ∷ rest) s =
      All-cons (IsWord w vars) _ _ (found (Word vars) (λ a. a.symbol) [] [] ks xs xs a h s.0)
      (args_of vars ks xs h rest s.1)

  length-args : (ks : List Argument) (xs : List (List ℕ)) (i : ℕ) (names : List ℕ) →
      length (map (at_argument [] ks xs) (positioned i names)) ≡ length names
  length-args ks xs i [] = refl
  length-args ks xs i (n ∷ names) = ap suc (length-args ks xs (i + 1) names)

  Makes-production : (ks : List Argument) (xs : List (List ℕ)) (q : Production) (p : Place) → 0 < p.next →
      All (IsWord w p.next) fields → Worded p.next (map (λ a. a.symbol) ks) xs →
      SuitsArity w (length fields) q → AllByRecursion (Stands ks) (arguments q) →
      MakesGates (production_word w fields ks xs q) (production_weight w q) (IsWord w) p
  Makes-production ks xs (Leaf t) p pos hf hx fit s = Makes-blasted w one fields t fit p pos hf
  Makes-production ks xs (Node op names) p pos hf hx fit s =
      (circuit w one op).makes p _ pos (length-args ks xs 0 names ∙ fit)
      (args_of p.next ks xs hx (positioned 0 names) s)

  choose : (x : ℕ) (word old : List ℕ) (r : Place) → x < r.next → IsWord w r.next word → IsWord w r.next old →
      MakesGates (bitwise (Choose (selector x)) word old) w (IsWord w) r
  choose x word old r l hw ho =
      let half : (2 * x) / 2 ≡ x = omega arith in
      let over : IsLiteral r.next (selector x) = rw half l in
      subst (λ k. MakesGates (bitwise (Choose (selector x)) word old) k (IsWord k) r) hw.bits
      (Makes-bitwise (Choose (selector x)) word old r (ho.bits ∙ sym hw.bits) over hw.inside ho.inside)

  pub Makes-chosen : (ks : List Argument) (xs : List (List ℕ)) (q : Production) (x : ℕ) (old : List ℕ) (p : Place) →
      0 < p.next → All (IsWord w p.next) fields → Worded p.next (map (λ a. a.symbol) ks) xs →
      SuitsArity w (length fields) q → AllByRecursion (Stands ks) (arguments q) → x < p.next → IsWord w p.next old →
      MakesGates (chosen_word w fields ks xs q x old) (production_weight w q + w) (IsWord w) p
  unfolding chosen_word
  Makes-chosen ks xs q x old p pos hf hx fit s l h =
      Makes-bind _ w (Makes-production ks xs q p pos hf hx fit s) refl
      (λ word r m g. choose x word old r (omega (arith, m, l)) g
      (IsWord-later w p.next r.next old (omega (arith, m)) h))

  Makes-slot : (n : ℕ) (ks : List Argument) (xs : List (List ℕ)) (ps : List Numbered) →
      AllByRecursion
      (λ p. (production_at rules n p.number ≡ Some p.production)
      × AllByRecursion (Stands ks) (arguments p.production))
      ps →
      (x : ℕ) (old : List ℕ) (p : Place) → 0 < p.next → All (IsWord w p.next) fields →
      Worded p.next (map (λ a. a.symbol) ks) xs → x + length ps ≤ p.next → IsWord w p.next old →
      MakesGates (slot_word w fields ks xs x old ps) (slot_weight w ps) (IsWord w) p
  unfolding slot_word
  Makes-slot n ks xs [] offers x old p pos hf hx l h = Makes-answer old h
  Makes-slot n ks xs (q ∷ qs) offers x old p pos hf hx l h =
      let first : x < p.next = omega (arith, l) in
      Makes-bind _ (slot_weight w qs)
      (Makes-chosen ks xs q.production x old p pos hf hx (suits n q.number q.production offers.0.0) offers.0.1 first h)
      (sym (sum_by-cons (λ (p : Numbered). production_weight w p.production + w) q qs))
      (λ new s k e. Makes-slot n ks xs qs offers.1 (x + 1) new s (omega (arith, pos, k))
      (fields-later p.next s.next (omega (arith, k)) hf) (worded-later p.next s.next (omega (arith, k)) _ xs hx)
      (omega (arith, l, k)) e)

  offers_all : (below n : ℕ) →
      AllByRecursion
      (λ p. (production_at rules n p.number ≡ Some p.production)
      × AllByRecursion (Stands (shared rules below n)) (arguments p.production))
      (offered rules below n)
  offers_all below n = pairs_of rules below n _ (are_offered rules n below)

  Makes-level : (below : ℕ) (ns : List ℕ) (x : ℕ) (xs : List (List ℕ)) (p : Place) → 0 < p.next →
      All (IsWord w p.next) fields → x + widths rules below ns ≤ p.next →
      Worded p.next (next_level rules below ns) xs →
      MakesGates (level_words rules w fields below x ns xs) (level_weight rules w below ns)
      (λ vars ws. Worded vars ns ws) p
  unfolding level_words
  Makes-level below [] x xs p pos hf l h = Makes-answer [] tt
  Makes-level below (n ∷ ns) x xs p pos hf l h =
      let ks = shared rules below n in
      let ps = offered rules below n in
      let wide : x + (width rules below n + widths rules below ns) ≤ p.next =
      omega (arith, l, sum_by-cons (width rules below) n ns) in
      let sum : level_weight rules w below ns + (slot_weight w ps + 0) ≡ level_weight rules w below (n ∷ ns) =
      omega (arith, sum_by-cons (λ (m : ℕ). slot_weight w (offered rules below m)) n ns) in
      let mine = front (Word p.next) (λ (a : Argument). a.symbol) ks (next_level rules below ns) xs xs h in
      let others = behind (Word p.next) (λ (a : Argument). a.symbol) ks (next_level rules below ns) xs xs h in
      Makes-bind _ (slot_weight w ps + 0)
      (Makes-level below ns (x + width rules below n) (drop (length ks) xs) p pos hf (omega (arith, wide)) others) sum
      (λ rest q k g. Makes-bind _ 0
      (Makes-slot n ks (take (length ks) xs) ps (offers_all below n) x (zeros w) q (omega (arith, pos, k))
      (fields-later p.next q.next (omega (arith, k)) hf)
      (worded-later p.next q.next (omega (arith, k)) _ _ mine) (omega (arith, wide, k))
      (IsWord-zeros w q.next (omega (arith, pos, k)))) (omega arith)
      (λ word r m e. Makes-answer (word ∷ rest) (e, worded-later q.next r.next (omega (arith, m)) ns rest g)))

  last_level : (vars : ℕ) (ns : List ℕ) → Worded vars (next_level rules zero ns) []
  last_level vars [] = tt
  last_level vars (n ∷ ns) = last_level vars ns

  -- how many selectors a level and those below it have
  pub Makes-words : (below : ℕ) (ns : List ℕ) (x : ℕ) (p : Place) → 0 < p.next → All (IsWord w p.next) fields →
      x + room rules below ns ≤ p.next →
      MakesGates (words rules w fields below x ns) (block_weight rules w below ns) (λ vars ws. Worded vars ns ws) p
  unfolding words block_weight room
  Makes-words zero ns x p pos hf l = Makes-level zero ns x [] p pos hf l (last_level p.next ns)
  Makes-words (suc below) ns x p pos hf l =
      Makes-bind _ (level_weight rules w (suc below) ns)
      (Makes-words below (next_level rules (suc below) ns) (x + widths rules (suc below) ns) p pos hf
      (omega (arith, l)))
      (omega arith)
      (λ next q k g. Makes-level (suc below) ns x next q (omega (arith, pos, k))
      (fields-later p.next q.next (omega (arith, k)) hf) (omega (arith, l, k)) g)
