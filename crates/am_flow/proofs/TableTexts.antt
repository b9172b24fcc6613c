-- The text of a table, line by line, and of a value, field by field.
use Rattle.std.proofs.Common.{◌≡◌, ℕ, suc, ◌+◌, ◌-◌, ◌<◌, ◌≤◌, List, [], ◌∷◌, ◌++◌, get_or, length, take, drop, codes}
use Rattle.std.proofs.Common.{decimal, flat_map, refl, sym, ap, ◌∙◌, subst, arith, append_assoc, append-nil}
use Rattle.std.proofs.lemmas.List.{drop_more, length-take-le, take-append-drop, take_more, take_rest}
use Rattle.am_syntax.proofs.Laws.{grew_first, grew_next}
use Rattle.am_syntax.specs.Canonical.{GrewToward}
use Rattle.am_flow.specs.States.{Entry, FlowRow, State}
use Rattle.am_flow.specs.Texts.{entry_text, lines_from, row_text, value_text}

-- the first field, and the others after commas
value_text-cons : (c : ℕ) (cs : List ℕ) → value_text (c ∷ cs) ≡ decimal c ++ flat_map (λ d. 44 ∷ decimal d) cs
value_text-cons c [] = sym (append-nil (decimal c))
value_text-cons c (d ∷ cs) = ap (λ (bs : List ℕ). decimal c ++ 44 ∷ bs) (value_text-cons d cs)

-- the same of a slice's pattern
pub value_text-first : (cs : List ℕ) → 1 ≤ length cs →
    value_text cs ≡ decimal (get_or cs 0 0) ++ flat_map (λ d. 44 ∷ decimal d) (take (length cs - 1) (drop 1 cs))
value_text-first [] some = absurd (omega arith)
value_text-first (c ∷ cs) some =
    value_text-cons c cs
    ∙ ap (λ (ds : List ℕ). decimal c ++ flat_map (λ d. 44 ∷ decimal d) ds) (sym (take_rest (c ∷ cs) 1))

-- each value after a space
pub row_text-each : (row : FlowRow) → row_text row ≡ flat_map (λ a. 32 ∷ value_text a) row
row_text-each [] = refl
row_text-each (a ∷ row) = ap (λ (bs : List ℕ). 32 ∷ (value_text a ++ bs)) (row_text-each row)

regrouped : (a b c d : List ℕ) → a ++ (b ++ (c ++ d)) ≡ (a ++ (b ++ c)) ++ d
regrouped a b c d = simp append_assoc

-- the line of the first node, and those after it
lines-cons : (n : ℕ) (e : Entry) (table : State) →
    lines_from n (e ∷ table) ≡ lines_from n (e ∷ []) ++ lines_from (suc n) table
lines-cons n e table =
    ap (λ (bs : List ℕ). codes "node" ++ 32 ∷ bs)
    (regrouped (decimal n) (entry_text e) (10 ∷ []) (lines_from (suc n) table))

lines-append : (n : ℕ) (table more : State) →
    lines_from n (table ++ more) ≡ lines_from n table ++ lines_from (n + length table) more
lines-append n [] more = ap (λ m. lines_from m more) (let z : n ≡ n + 0 = omega arith in z)
lines-append n (e ∷ table) more =
    lines-cons n e (table ++ more)
    ∙ ap (λ (bs : List ℕ). lines_from n (e ∷ []) ++ bs) (lines-append (suc n) table more)
    ∙ sym (append_assoc (lines_from n (e ∷ [])) (lines_from (suc n) table) (lines_from (suc n + length table) more))
    ∙ ap (λ (bs : List ℕ). bs ++ lines_from (suc n + length table) more) (sym (lines-cons n e table))
    ∙ ap (λ m. lines_from n (e ∷ table) ++ lines_from m more)
    (let z : suc n + length table ≡ n + suc (length table) = omega arith in z)

module _ (entries : State) (i : ℕ) (e : Entry) (below : i < length entries) (here : e ≡ get_or entries i e) where
  behind : (more : State) → lines_from 0 (take i entries ++ more) ≡ lines_from 0 (take i entries) ++ lines_from i more
  behind more =
      lines-append 0 (take i entries) more
      ∙ ap (λ m. lines_from 0 (take i entries) ++ lines_from m more)
      (let z : 0 + length (take i entries) ≡ i = omega (arith, length-take-le i entries (omega arith)) in z)

  -- the line of a place was written after those before it
  pub wrote_node : (old mid new : List ℕ) → mid ≡ old ++ lines_from 0 (take i entries) →
      new ≡ mid ++ lines_from i (e ∷ []) → new ≡ old ++ lines_from 0 (take (i + 1) entries)
  wrote_node old mid new done last =
      last
      ∙ ap (λ (bs : List ℕ). bs ++ lines_from i (e ∷ [])) done
      ∙ append_assoc old (lines_from 0 (take i entries)) (lines_from i (e ∷ []))
      ∙ ap (λ (bs : List ℕ). old ++ bs) (sym (behind (e ∷ [])))
      ∙ ap (λ (x : Entry). old ++ lines_from 0 (take i entries ++ x ∷ [])) here
      ∙ ap (λ (xs : State). old ++ lines_from 0 xs) (sym (take_more entries i e below))

  -- the lines of the places before one were written, and that of the place grew
  pub grew_node : (old mid new : List ℕ) → mid ≡ old ++ lines_from 0 (take i entries) →
      GrewToward mid new (lines_from i (e ∷ [])) → GrewToward old new (lines_from 0 entries)
  grew_node old mid new done grew =
      let rest = drop (i + 1) entries in
      let whole : entries ≡ take i entries ++ e ∷ rest =
      sym (take-append-drop i entries)
      ∙ ap (λ (xs : State). take i entries ++ xs) (drop_more entries i e below)
      ∙ ap (λ (x : Entry). take i entries ++ x ∷ rest) (sym here) in
      subst (GrewToward old new)
      (ap (λ (bs : List ℕ). lines_from 0 (take i entries) ++ bs) (sym (lines-cons i e rest)) ∙ sym (behind (e ∷ rest))
      ∙ ap (lines_from 0) (sym whole))
      (grew_next (lines_from 0 (take i entries)) done (grew_first (lines_from (suc i) rest) grew))
