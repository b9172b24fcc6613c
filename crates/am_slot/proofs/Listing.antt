-- The clauses of one slot more, one pair more and so on.
use Rattle.std.proofs.Common.{◌≡◌, ℕ, zero, suc, ◌+◌, ◌-◌, ◌<◌, ◌≤◌, List, [], ◌∷◌, ◌++◌, map, take, drop, length}
use Rattle.std.proofs.Common.{length-append, get_or, refl, sym, ◌∙◌, ap, subst, arith}
use Rattle.std.specs.Prelude.{All}
use Rattle.std.specs.List.{range_with_len}
use Rattle.std.proofs.lemmas.List.{get_or-map, length-map, drop_all, take_all, length-drop, take_more, map-append}
use Rattle.std.proofs.lemmas.List.Elements.{All-get_or}
use Rattle.std.proofs.lemmas.List.Sums.{sum_by-cons}
use Rattle.am_lit.specs.Literal.{opposite_of}
use Rattle.am_tree.specs.declared.slots.Argument.{Argument}
use Rattle.am_tree.specs.Trees.{Rules}
use Rattle.am_tree.specs.Slots.{Numbered, offered, shared}
use Rattle.am_tree.proofs.Laws.{drop-from}
use Rattle.am_slot.specs.declared.clauses.Asked.{Asked}
use Rattle.am_slot.specs.Selectors.{width, widths, selector, selectors}
use Rattle.am_slot.specs.Clauses.{asks, pairs, children, slot_clauses, level_clauses, next_asked, symbols, clauses_from}

-- the selectors of a slot by their number
pub selectors-range : (x : ℕ) (ps : List Numbered) → selectors x ps ≡ map selector (range_with_len x (length ps))
selectors-range x [] = refl
selectors-range x (p ∷ ps) = ap (λ (l : List ℕ). selector x ∷ l) (selectors-range (x + 1) ps)

-- pairs

-- the pairs from a literal on: those that it is in, then those of the later ones
pub pairs-from : (i l : ℕ) (ls : List ℕ) → i < length ls → l ≡ get_or ls i l →
    pairs (drop i ls) ≡ map (λ m. opposite_of l ∷ opposite_of m ∷ []) (drop (i + 1) ls) ++ pairs (drop (i + 1) ls)
pairs-from i l ls h e = ap pairs (drop-from i l ls h e)

-- as many items as are left are all that is left
pub whole-rest : (k : ℕ) (ls : List ℕ) → take (length ls - k) (drop k ls) ≡ drop k ls
whole-rest k ls = take_all (length ls - k) (drop k ls) (omega (arith, length-drop k ls))

pub pairs-end : (i : ℕ) (ls : List ℕ) → length ls ≤ i → pairs (drop i ls) ≡ []
pairs-end i ls h = ap pairs (drop_all i ls h)

-- slots of a level

-- what holds of all nonterminals of a level holds of the one at a place
pub symbol-in : (P : ℕ → Type 0) (level : List Asked) (i : ℕ) (s : Asked) → i < length level → s ≡ get_or level i s →
    All P (symbols level) →
    P s.symbol
symbol-in P level i s l e h =
    let many : i < length (symbols level) = rw (length-map level (λ (r : Asked). r.symbol)) l in
    let at = All-get_or P (symbols level) i s.symbol many h in
    let is : get_or (symbols level) i s.symbol ≡ s.symbol =
    get_or-map (λ (r : Asked). r.symbol) level i s s.symbol l ∙ ap (λ (r : Asked). r.symbol) (sym e) in
    subst P is at

module _ (rules : Rules) (below i : ℕ) (level : List Asked) (s : Asked) (l : i < length level)
    (e : s ≡ get_or level i s) where
  -- the clauses from a slot on: its own, then those of the later ones
  pub level-from : (x : ℕ) → level_clauses rules below x (drop i level) ≡
      slot_clauses s.by (selectors x (offered rules below s.symbol))
      ++ level_clauses rules below (x + width rules below s.symbol) (drop (i + 1) level)
  level-from x = ap (level_clauses rules below x) (drop-from i s level l e)

  -- the children from a slot on: its own, then those of the later ones
  pub asked-from : (x : ℕ) → next_asked rules below x (drop i level) ≡
      children x (offered rules below s.symbol) (shared rules below s.symbol)
      ++ next_asked rules below (x + width rules below s.symbol) (drop (i + 1) level)
  asked-from x = ap (next_asked rules below x) (drop-from i s level l e)

  -- the selectors from a slot on: its own, then those of the later ones
  pub symbols-from : widths rules below (symbols (drop i level))
      ≡ width rules below s.symbol + widths rules below (symbols (drop (i + 1) level))
  symbols-from =
      ap (λ (ss : List Asked). widths rules below (symbols ss)) (drop-from i s level l e)
      ∙ sum_by-cons (width rules below) s.symbol (symbols (drop (i + 1) level))

-- levels and those below them

less : (b : ℕ) → suc b - 1 ≡ b
less b = omega arith

pub clauses-last : (rules : Rules) (x : ℕ) (ss : List Asked) → clauses_from rules 0 x ss ≡ level_clauses rules 0 x ss
unfolding clauses_from
clauses-last rules x ss = refl

-- the clauses of a level and those below it: its own, then those of the others
pub clauses-above : (rules : Rules) (below x : ℕ) (ss : List Asked) → 0 < below →
    clauses_from rules below x ss
    ≡ level_clauses rules below x ss
    ++ clauses_from rules (below - 1) (x + widths rules below (symbols ss)) (next_asked rules below x ss)
unfolding clauses_from
clauses-above rules zero x ss l = absurd (omega (arith, l))
clauses-above rules (suc below) x ss l = rw (less below) refl

-- a level has at most the clauses of it and those below it
pub level-most : (rules : Rules) (below x : ℕ) (ss : List Asked) →
    length (level_clauses rules below x ss) ≤ length (clauses_from rules below x ss)
unfolding clauses_from
level-most rules zero x ss = omega arith
level-most rules (suc below) x ss =
    omega (
      arith,
      length-append (level_clauses rules (suc below) x ss)
          (clauses_from rules below (x + widths rules (suc below) (symbols ss)) (next_asked rules (suc below) x ss)),
    )

-- below the last level there are no clauses
pub clauses-zero : (rules : Rules) (below x : ℕ) (ss : List Asked) → below ≤ 0 →
    clauses_from rules below x ss ≡ level_clauses rules below x ss
unfolding clauses_from
clauses-zero rules zero x ss e = refl
clauses-zero rules (suc below) x ss e = absurd (omega (arith, e))

pub children-from : (x i : ℕ) (ps : List Numbered) (ks : List Argument) (k : Argument) → i < length ks →
    k ≡ get_or ks i k →
    children x ps (take (i + 1) ks) ≡ children x ps (take i ks) ++ (record { symbol = k.symbol; by = asks k x ps }) ∷ []
children-from x i ps ks k l e =
    rw (take_more ks i k l, ← e)
    (map-append (λ (a : Argument). let r : Asked = record { symbol = a.symbol; by = asks a x ps } in r) (take i ks)
    (k ∷ []))
