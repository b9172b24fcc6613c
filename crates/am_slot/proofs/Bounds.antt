-- How many selectors and clauses there are at most.
use Rattle.std.proofs.Common.{◌≡◌, ℕ, zero, suc, ◌+◌, ◌-◌, ◌*◌, ◌≤◌, Bool, true, false, cond, List, [], ◌∷◌, ◌++◌, map}
use Rattle.std.proofs.Common.{length, length-append, refl, ap, arith}
use Rattle.std.specs.Prelude.{slice_index_or}
use Rattle.std.specs.List.{AllByRecursion, filter, list_any}
use Rattle.std.proofs.lemmas.List.{length-map}
use Rattle.std.proofs.lemmas.List.Sums.{sum_by-cons}
use Rattle.am_lit.specs.Literal.{opposite_of}
use Rattle.am_tree.specs.declared.grammar.Production.{Production}
use Rattle.am_tree.specs.declared.slots.Argument.{Argument}
use Rattle.am_tree.specs.Trees.{Rules}
use Rattle.am_tree.specs.Grammars.{IsGrammar}
use Rattle.am_tree.specs.Slots.{Numbered, numbered, is_offered, offered, arguments, shared, same, next_level}
use Rattle.am_tree.specs.Slots.{level_slots, slots_from, layout_of}
use Rattle.am_tree.proofs.Laws.{few, length-level}
use Rattle.am_slot.specs.declared.clauses.Asked.{Asked}
use Rattle.am_slot.specs.Selectors.{width, widths, room, selector, selectors}
use Rattle.am_slot.specs.Clauses.{root, asks, pairs, children, slot_clauses, level_clauses, next_asked, symbols}
use Rattle.am_slot.specs.Clauses.{clauses_from}
use Rattle.am_slot.proofs.Derived.{symbols-next}

most-filter : {A : Type 0} (test : A → Bool) (xs : List A) → length (filter test xs) ≤ length xs
most-filter test [] = omega arith
most-filter test (x ∷ xs) = go (test x) (most-filter test xs)
  where
    go : (b : Bool) → length (filter test xs) ≤ length xs →
        length (cond b (x ∷ filter test xs) (filter test xs)) ≤ length (x ∷ xs)
    go true h = omega (arith, h)
    go false h = omega (arith, h)

length-numbered : (i : ℕ) (ps : List Production) → length (numbered i ps) ≡ length ps
length-numbered i [] = refl
length-numbered i (p ∷ ps) = ap suc (length-numbered (i + 1) ps)

length-selectors : (x : ℕ) (ps : List Numbered) → length (selectors x ps) ≡ length ps
length-selectors x [] = refl
length-selectors x (p ∷ ps) = ap suc (length-selectors (x + 1) ps)

most-asks : (a : Argument) (x : ℕ) (ps : List Numbered) → length (asks a x ps) ≤ length ps
most-asks a x [] = omega arith
most-asks a x (p ∷ ps) = go (list_any (same a) (arguments p.production)) (asks a (x + 1) ps) (most-asks a (x + 1) ps)
  where
    go : (b : Bool) (rest : List (List ℕ)) → length rest ≤ length ps →
        length (cond b ((opposite_of (selector x) ∷ []) ∷ rest) rest) ≤ length (p ∷ ps)
    go true rest h = omega (arith, h)
    go false rest h = omega (arith, h)

square : (n : ℕ) → n + n * n ≤ (n + 1) * (n + 1)
square n = omega arith

most-pairs : (ls : List ℕ) → length (pairs ls) ≤ length ls * length ls
most-pairs [] = omega arith
most-pairs (l ∷ ls) =
    omega (
      arith,
      length-append (map (λ m. opposite_of l ∷ opposite_of m ∷ []) ls) (pairs ls),
      length-map ls (λ (m : ℕ). opposite_of l ∷ opposite_of m ∷ []),
      most-pairs ls,
      square (length ls),
    )

few-squares : (n : ℕ) → n ≤ 64 → n * n ≤ 4096
few-squares n h = grind (arith, h)

most-slot : (by : List (List ℕ)) (own : List ℕ) → length by ≤ 64 → length own ≤ 64 → length (slot_clauses by own) ≤ 4160
most-slot by own b o =
    omega (
      arith,
      length-append (map (λ a. a ++ own) by) (pairs own),
      length-map by (λ (a : List ℕ). a ++ own),
      most-pairs own,
      few-squares (length own) o,
      b,
    )

-- few rows ask for each slot
abbrev pub FewAsk : List Asked → Type 0
FewAsk ss = AllByRecursion (λ s. length s.by ≤ 64) ss

pub few-roots : (root : ℕ → Asked) → ((n : ℕ) → length (root n).by ≤ 64) → (ns : List ℕ) → FewAsk (map root ns)
few-roots root h [] = tt
few-roots root h (n ∷ ns) = (h n, few-roots root h ns)

module _ (rules : Rules) (small : AllByRecursion (λ ps. length ps ≤ 64) rules) where
  few_at : (rs : Rules) → AllByRecursion (λ ps. length ps ≤ 64) rs → (n : ℕ) → length (slice_index_or rs n []) ≤ 64
  few_at [] h n = omega arith
  few_at (ps ∷ rs) h zero = h.0
  few_at (ps ∷ rs) h (suc n) = few_at rs h.1 n

  pub few-width : (below n : ℕ) → width rules below n ≤ 64
  few-width below n =
      let ps = slice_index_or rules n [] in
      omega (
        arith,
        few_at rules small n,
        length-numbered 0 ps,
        most-filter (λ (p : Numbered). is_offered below p.production) (numbered 0 ps),
      )

  most-widths : (below : ℕ) (ns : List ℕ) → widths rules below ns ≤ 64 * length ns
  most-widths below [] = omega arith
  most-widths below (n ∷ ns) =
      omega (arith, sum_by-cons (width rules below) n ns, few-width below n, most-widths below ns)

  pub most-room : (below level first : ℕ) (ns : List ℕ) →
      room rules below ns ≤ 64 * length (slots_from rules below level first ns)
  unfolding room slots_from
  most-room zero level first ns =
      omega (arith, most-widths zero ns, length-level rules zero level (first + length ns) ns)
  most-room (suc below) level first ns =
      let rest = slots_from rules below (level + 1) (first + length ns) (next_level rules (suc below) ns) in
      omega (
        arith,
        most-widths (suc below) ns,
        length-level rules (suc below) level (first + length ns) ns,
        length-append (level_slots rules (suc below) level (first + length ns) ns) rest,
        most-room below (level + 1) (first + length ns) (next_level rules (suc below) ns),
      )

  most-level : (below x : ℕ) (ss : List Asked) → FewAsk ss → length (level_clauses rules below x ss) ≤ 4160 * length ss
  most-level below x [] h = omega arith
  most-level below x (s ∷ ss) h =
      let own = selectors x (offered rules below s.symbol) in
      let few_own : length own ≤ 64 =
      omega (arith, length-selectors x (offered rules below s.symbol), few-width below s.symbol) in
      omega (
        arith,
        length-append (slot_clauses s.by own) (level_clauses rules below (x + width rules below s.symbol) ss),
        most-slot s.by own h.0 few_own,
        most-level below (x + width rules below s.symbol) ss h.1,
      )

  few-children : (below n x : ℕ) (ks : List Argument) (rest : List Asked) → FewAsk rest →
      FewAsk (children x (offered rules below n) ks ++ rest)
  few-children below n x [] rest h = h
  few-children below n x (k ∷ ks) rest h =
      (omega (arith, most-asks k x (offered rules below n), few-width below n), few-children below n x ks rest h)

  few-next : (below x : ℕ) (ss : List Asked) → FewAsk (next_asked rules below x ss)
  few-next below x [] = tt
  few-next below x (s ∷ ss) =
      few-children below s.symbol x (shared rules below s.symbol) _ (few-next below (x + width rules below s.symbol) ss)

  pub most-clauses : (below level first x : ℕ) (ss : List Asked) → FewAsk ss →
      length (clauses_from rules below x ss) ≤ 4160 * length (slots_from rules below level first (symbols ss))
  unfolding clauses_from slots_from
  most-clauses zero level first x ss h =
      omega (
        arith,
        most-level zero x ss h,
        length-level rules zero level (first + length (symbols ss)) (symbols ss),
        length-map ss (λ (s : Asked). s.symbol),
      )
  most-clauses (suc below) level first x ss h =
      let ns = symbols ss in
      let rest = slots_from rules below (level + 1) (first + length ns) (next_level rules (suc below) ns) in
      let deeper =
      rw (symbols-next rules (suc below) x ss) at
      (most-clauses below (level + 1) (first + length ns) (x + widths rules (suc below) ns)
      (next_asked rules (suc below) x ss) (few-next (suc below) x ss)) in
      omega (
        arith,
        most-level (suc below) x ss h,
        length-map ss (λ (s : Asked). s.symbol),
        length-level rules (suc below) level (first + length ns) ns,
        length-append (level_slots rules (suc below) level (first + length ns) ns) rest,
        length-append (level_clauses rules (suc below) x ss)
            (clauses_from rules below (x + widths rules (suc below) ns) (next_asked rules (suc below) x ss)),
        deeper,
      )

-- with at most 256 slots

-- a grammar of at most 256 slots has at most 16384 selectors
pub selectors_most : (rules : Rules) (starts : List ℕ) (depth : ℕ) → IsGrammar rules starts depth →
    length (layout_of rules starts depth) ≤ 256 →
    room rules (depth - 1) starts ≤ 16384
selectors_most rules starts depth g h =
    omega (arith, most-room rules (few rules starts depth g) (depth - 1) 1 0 starts, h)

-- the roots are those of the starts
pub symbols-roots : (starts : List ℕ) → symbols (map root starts) ≡ starts
symbols-roots [] = refl
symbols-roots (n ∷ ns) = ap (λ (l : List ℕ). n ∷ l) (symbols-roots ns)

-- a grammar of at most 256 slots has at most 1064960 clauses
pub clauses_most : (rules : Rules) (starts : List ℕ) (depth : ℕ) → IsGrammar rules starts depth →
    length (layout_of rules starts depth) ≤ 256 →
    length (clauses_from rules (depth - 1) 1 (map root starts)) ≤ 1064960
clauses_most rules starts depth g h =
    let all =
    most-clauses rules (few rules starts depth g) (depth - 1) 1 0 1 (map root starts)
    (few-roots root (λ n. omega arith) starts) in
    omega (arith, rw (symbols-roots starts) at all, h)
