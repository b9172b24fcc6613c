-- Rows of one list that is cut at their ends: reading one, adding one, keeping the first ones.
use Rattle.std.proofs.Common.{◌≡◌, ℕ, zero, suc, ◌+◌, ◌-◌, ◌<◌, ◌≤◌, List, [], ◌∷◌, ◌++◌, length, take, drop, get_or}
use Rattle.std.proofs.Common.{refl, sym, ap, ◌∙◌, arith, length-append, length-take}
use Rattle.std.proofs.lemmas.Grind.{common_steps}
use Rattle.std.proofs.lemmas.List.{drop-take, take-take}
use Rattle.am_lit.specs.inside.Rows.{rows, AreRowEnds}

-- there is a row for each end
pub length_rows : (from : ℕ) (ends all : List ℕ) → length (rows from ends all) ≡ length ends
length_rows from [] all = refl
length_rows from (end ∷ ends) all = ap suc (length_rows end ends all)

-- the i-th row stands between two ends
pub get_or-rows : (from : ℕ) (ends all : List ℕ) (i : ℕ) → i < length ends
    → get_or (rows from ends all) i []
    ≡ take (get_or ends i 0 - get_or (from ∷ ends) i 0) (drop (get_or (from ∷ ends) i 0) all)
get_or-rows from [] all i lt = absurd (omega arith)
get_or-rows from (end ∷ ends) all zero lt = refl
get_or-rows from (end ∷ ends) all (suc i) lt = get_or-rows end ends all i (omega arith)

AreRowEnds-le : (from : ℕ) (ends : List ℕ) (total : ℕ) → AreRowEnds from ends total → from ≤ total
AreRowEnds-le from [] total h = omega arith
AreRowEnds-le from (end ∷ ends) total h = omega (arith, AreRowEnds-le end ends total h.1)

-- an end is at least the one before it, and at most the total
pub AreRowEnds-at : (from : ℕ) (ends : List ℕ) (total : ℕ) (i : ℕ) → AreRowEnds from ends total → i < length ends
    → (get_or (from ∷ ends) i 0 ≤ get_or ends i 0) × (get_or ends i 0 ≤ total)
AreRowEnds-at from [] total i h lt = absurd (omega arith)
AreRowEnds-at from (end ∷ ends) total zero h lt = (h.0, AreRowEnds-le end ends total h.1)
AreRowEnds-at from (end ∷ ends) total (suc i) h lt = AreRowEnds-at end ends total i h.1 (omega arith)

AreRowEnds-first : (from : ℕ) (ends : List ℕ) (total n : ℕ) → AreRowEnds from ends total → n ≤ length ends
    → get_or (from ∷ ends) n 0 ≤ total
AreRowEnds-first from ends total zero h le = AreRowEnds-le from ends total h
AreRowEnds-first from [] total (suc n) h le = absurd (omega arith)
AreRowEnds-first from (end ∷ ends) total (suc n) h le = AreRowEnds-first end ends total n h.1 (omega arith)

-- the ends of a cut list and the new total cut the longer list
pub AreRowEnds-push : (from : ℕ) (ends : List ℕ) (total more : ℕ) → AreRowEnds from ends total → total ≤ more
    → AreRowEnds from (ends ++ more ∷ []) more
AreRowEnds-push from [] total more h le = (omega arith, refl)
AreRowEnds-push from (end ∷ ends) total more h le = (h.0, AreRowEnds-push end ends total more h.1 le)

piece-append : (from end : ℕ) (all new : List ℕ) → from ≤ end → end ≤ length all
    → take (end - from) (drop from (all ++ new)) ≡ take (end - from) (drop from all)
piece-append from end all new h le = grind (arith, common_steps)

rest : (from : ℕ) (all new : List ℕ) → from ≡ length all
    → take ((length all + length new) - from) (drop from (all ++ new)) ≡ new
rest from all new h = grind (arith, common_steps)

-- a list with more literals, and their end, has one row more: these literals
pub rows-push : (from : ℕ) (ends all new : List ℕ) → AreRowEnds from ends (length all)
    → rows from (ends ++ (length all + length new) ∷ []) (all ++ new) ≡ rows from ends all ++ new ∷ []
rows-push from [] all new h = ap (λ r. r ∷ []) (rest from all new h)
rows-push from (end ∷ ends) all new h =
    rw (piece-append from end all new h.0 (AreRowEnds-le end ends (length all) h.1))
    (ap (λ r. take (end - from) (drop from all) ∷ r) (rows-push end ends all new h.1))

-- the first ends cut the list where the last of them is
pub AreRowEnds-take : (from : ℕ) (ends : List ℕ) (total n : ℕ) → AreRowEnds from ends total → n ≤ length ends
    → AreRowEnds from (take n ends) (get_or (from ∷ ends) n 0)
AreRowEnds-take from ends total zero h le = refl
AreRowEnds-take from [] total (suc n) h le = absurd (omega arith)
AreRowEnds-take from (end ∷ ends) total (suc n) h le = (h.0, AreRowEnds-take end ends total n h.1 (omega arith))

piece-take : (from end stop : ℕ) (all : List ℕ) → from ≤ end → end ≤ stop
    → take (end - from) (drop from (take stop all)) ≡ take (end - from) (drop from all)
piece-take from end stop all h le =
    let split : from + (stop - from) ≡ stop = omega arith in
    let inner : drop from (take stop all) ≡ take (stop - from) (drop from all) =
    ap (λ n. drop from (take n all)) (sym split) ∙ drop-take from (stop - from) all in
    ap (take (end - from)) inner ∙ take-take (end - from) (stop - from) (drop from all) (omega arith)

-- the first ends, with the literals up to the last of them, have the first rows
pub rows-take : (from : ℕ) (ends all : List ℕ) (total n stop : ℕ) → AreRowEnds from ends total → n ≤ length ends
    → get_or (from ∷ ends) n 0 ≤ stop
    → rows from (take n ends) (take stop all) ≡ take n (rows from ends all)
rows-take from ends all total zero stop h le s = refl
rows-take from [] all total (suc n) stop h le s = absurd (omega arith)
rows-take from (end ∷ ends) all total (suc n) stop h le s =
    let reach : end ≤ stop = omega (
      arith,
      AreRowEnds-le end (take n ends) (get_or (end ∷ ends) n 0) (AreRowEnds-take end ends total n h.1 (omega arith)),
    ) in
    rw (piece-take from end stop all h.0 reach)
    (ap (λ r. take (end - from) (drop from all) ∷ r) (rows-take end ends all total n stop h.1 (omega arith) s))

-- a push of the new row's literals and of their end
module _ (ends lits new ends' lits' : List ℕ) (n : ℕ) (e : ends' ≡ ends ++ n ∷ []) (l : lits' ≡ lits ++ new)
    (h : n ≡ length lits') (cut : AreRowEnds 0 ends (length lits)) where
  -- the ends still cut the literals
  pub IsCut-pushed : AreRowEnds 0 ends' (length lits')
  IsCut-pushed = rw (e, h) (AreRowEnds-push 0 ends (length lits) (length lits') cut
      (rw (l, length-append) (omega arith)))

  -- the new row stands after the others
  pub rows-pushed : rows 0 ends' lits' ≡ rows 0 ends lits ++ new ∷ []
  rows-pushed = rw (e, h, l, length-append) (rows-push 0 ends lits new cut)

-- a cut of the ends, and of the literals after the last of them
module _ (ends lits ends' lits' : List ℕ) (len stop : ℕ) (e : ends' ≡ take len ends) (l : lits' ≡ take stop lits)
    (h : stop ≡ get_or (0 ∷ ends) len 0) (inside : len ≤ length ends) (cut : AreRowEnds 0 ends (length lits)) where
  stop-le : stop ≤ length lits
  stop-le = rw h (AreRowEnds-first 0 ends (length lits) len cut inside)

  -- the ends still cut the literals
  pub IsCut-cut : AreRowEnds 0 ends' (length lits')
  IsCut-cut =
      let same : length lits' ≡ get_or (0 ∷ ends) len 0 = rw (l, length-take) (omega (arith, stop-le)) in
      rw (same, e) (AreRowEnds-take 0 ends (length lits) len cut inside)

  -- the first rows are left
  pub rows-cut : rows 0 ends' lits' ≡ take len (rows 0 ends lits)
  rows-cut = rw (e, l) (rows-take 0 ends lits (length lits) len stop cut inside (omega arith))
