-- Levels of entries.
use Rattle.std.proofs.Common.{ℕ, All, ◌≡◌, ◌+◌, ◌-◌, ◌<◌, ◌≤◌, suc, zero, Bool, true, false, cond, List, [], ◌∷◌, ◌++◌}
use Rattle.std.proofs.Common.{length, get_or, take, map, refl, sym, ap, ◌∙◌, inl, inr, arith}
use Rattle.std.specs.Prelude.{Contains, nat_le}
use Rattle.std.proofs.lemmas.Bool.Decides.{nat_tests}
use Rattle.std.proofs.lemmas.List.{append-nil}
use Rattle.std.proofs.lemmas.List.Elements.{filter-append, filter_passes, All-head, All-tail, All-contains}
use Rattle.std.proofs.lemmas.List.Elements.{All-contains_itself, All-filter}
use Rattle.am_lit.proofs.Laws.{Contains-cons_cases, Contains-filter, Contains-nil}
use Rattle.am_trail.specs.declared.entry.Entry.{Entry}
use Rattle.am_trail.specs.Trails.{IsNextEntry, Leads, upto}
use Rattle.std.proofs.lemmas.List.{get_or-map}

-- the levels of entries
pub levels : List Entry → List ℕ
levels entries = map (λ e. e.level) entries

-- the level at a place is that of the entry there
pub level_at : (es : List Entry) (k : ℕ) (x : Entry) → k < length es → x ≡ get_or es k x
    → get_or (levels es) k 0 ≡ x.level
unfolding levels
level_at es k x lt is = get_or-map (λ (e : Entry). e.level) es k x 0 lt ∙ ap (λ (e : Entry). e.level) (sym is)

-- one more entry leads on to its level
pub Leads_push : (from : ℕ) (es : List Entry) (to : ℕ) (e : Entry) → Leads from es to → IsNextEntry to e
    → Leads from (es ++ e ∷ []) e.level
Leads_push from [] to e h n = (rw h n, refl)
Leads_push from (x ∷ xs) to e h n = (h.0, Leads_push x.level xs to e h.1 n)

next_le : (from : ℕ) (e : Entry) → IsNextEntry from e → (from ≤ e.level) × (e.level ≤ from + 1)
next_le from e (inl n) = (omega (arith, n.1), omega (arith, n.1))
next_le from e (inr n) = (omega (arith, n.1), omega (arith, n.1))

-- each entry leads at most one level higher
pub Leads_le : (from : ℕ) (es : List Entry) (to : ℕ) → Leads from es to → to ≤ from + length es
Leads_le from [] to h = omega arith
Leads_le from (x ∷ xs) to h = omega (arith, (next_le from x h.0).1, Leads_le x.level xs to h.1)

rising : (from : ℕ) (es : List Entry) (to k : ℕ) → Leads from es to → k < length es → from ≤ get_or (levels es) k 0
unfolding levels
rising from [] to k h lt = absurd (omega arith)
rising from (x ∷ xs) to zero h lt = (next_le from x h.0).0
rising from (x ∷ xs) to (suc k) h lt =
    let one : from ≤ x.level = (next_le from x h.0).0 in
    let more : x.level ≤ get_or (levels xs) k 0 = rising x.level xs to k h.1 (omega arith) in
    omega arith

none_upto : (level : ℕ) (es : List Entry) → ((k : ℕ) → k < length es → level < get_or (levels es) k 0)
    → upto level es ≡ []
unfolding levels
none_upto level [] h = refl
none_upto level (x ∷ xs) h =
    let above : level < x.level = h 0 (omega arith) in
    let fails : nat_le x.level level ≡ false = grind (arith, nat_tests) in
    rw fails (none_upto level xs (λ k lt. h (suc k) (omega arith)))

step_last : (x : Entry) (xs : List Entry) (level n : ℕ) → get_or (levels (x ∷ xs)) n 0 ≤ level → 0 < n
    → get_or (levels xs) (n - 1) 0 ≤ level
unfolding levels
step_last x xs level zero h p = absurd (omega arith)
step_last x xs level (suc m) h p = let e : suc m - 1 ≡ m = omega arith in rw e h

first_by : (x : Entry) (xs : List Entry) (to level n : ℕ) → Leads x.level xs to → n ≤ length xs
    → get_or (levels (x ∷ xs)) n 0 ≤ level → x.level ≤ level
unfolding levels
first_by x xs to level zero h le last = last
first_by x xs to level (suc m) h le last =
    let more : x.level ≤ get_or (levels xs) m 0 = rising x.level xs to m h (omega arith) in
    omega arith

-- the entries before the last one that isn't above a level
pub prefix_upto : (level from : ℕ) (es : List Entry) (to len : ℕ) → Leads from es to → len ≤ length es
    → ((k : ℕ) → len ≤ k → k < length es → level < get_or (levels es) k 0)
    → (0 < len → get_or (levels es) (len - 1) 0 ≤ level) → take len es ≡ upto level es
unfolding levels
prefix_upto level from [] to len h le above last = let none : len ≡ 0 = omega arith in rw none refl
prefix_upto level from (x ∷ xs) to zero h le above last =
    sym (none_upto level (x ∷ xs) (λ k lt. above k (omega arith) lt))
prefix_upto level from (x ∷ xs) to (suc n) h le above last =
    let e : suc n - 1 ≡ n = omega arith in
    let here : get_or (levels (x ∷ xs)) n 0 ≤ level = rw e at (last (omega arith)) in
    let first : x.level ≤ level = first_by x xs to level n h.1 (omega arith) here in
    let passes : nat_le x.level level ≡ true = grind (arith, nat_tests) in
    rw passes (ap (λ r. x ∷ r) (prefix_upto level x.level xs to n h.1 (omega arith)
    (λ k lo hi. above (suc k) (omega arith) (omega arith)) (step_last x xs level n here)))

-- of entries from above a level on, none stands up to it
pub all_above : (level from : ℕ) (es : List Entry) (to : ℕ) → level < from → Leads from es to → upto level es ≡ []
all_above level from es to lt h = none_upto level es (λ k in'. let more = rising from es to k h in' in omega arith)

Leads_upto_by : (level from : ℕ) (x : Entry) (rest : List Entry) → IsNextEntry from x → (b : Bool)
    → (b ≡ true → x.level ≤ level) → (b ≡ false → level < x.level)
    → from ≤ level → (x.level ≤ level → Leads x.level rest level) → (level < x.level → rest ≡ [])
    → Leads from (cond b (x ∷ rest) rest) level
Leads_upto_by level from x rest n true t f lo more none = (n, more (t refl))
Leads_upto_by level from x rest n false t f lo more none =
    let lt = f refl in
    let near = (next_le from x n).1 in
    rw (none lt) (omega arith)

-- the levels up to one of them lead to it
pub Leads_upto : (level from : ℕ) (es : List Entry) (to : ℕ) → Leads from es to → from ≤ level → level ≤ to
    → Leads from (upto level es) level
Leads_upto level from [] to h lo hi = omega arith
Leads_upto level from (x ∷ xs) to h lo hi =
    Leads_upto_by level from x (upto level xs) h.0 (nat_le x.level level) (λ e. grind (arith, nat_tests))
    (λ e. grind (arith, nat_tests)) lo
    (λ le. Leads_upto level x.level xs to h.1 le hi) (λ lt. all_above level x.level xs to lt h.1)

-- the invariant after an entry was put
pub fits_level : (level count vars n : ℕ) → level ≤ 0 + count → count + 1 ≤ vars → vars < n → level + 1 < n
fits_level level count vars n a b c = omega arith

-- the level at a place is that of the entry there, whatever stands beyond the end
pub level_read : (es : List Entry) (k : ℕ) (d : Entry) → k < length es → get_or (levels es) k 0 ≡ (get_or es k d).level
unfolding levels
level_read es k d lt = get_or-map (λ (e : Entry). e.level) es k d 0 lt

-- each entry follows the one before it
pub next_at : (from : ℕ) (es : List Entry) (to k : ℕ) (d : Entry) → Leads from es to → suc k < length es
    → IsNextEntry (get_or es k d).level (get_or es (suc k) d)
next_at from [] to k d h lt = absurd (omega arith)
next_at from (x ∷ []) to k d h lt = absurd (omega arith)
next_at from (x ∷ y ∷ es) to zero d h lt = h.1.0
next_at from (x ∷ y ∷ es) to (suc k) d h lt = next_at x.level (y ∷ es) to k d h.1 (omega arith)

next_up : (from : ℕ) (x : Entry) (to : ℕ) → IsNextEntry from x → x.level ≤ to → from ≤ to
next_up from x to (inl n) le = omega (arith, n.1)
next_up from x to (inr n) le = omega (arith, n.1)

-- entries lead to no lower level
pub rises_to : (from : ℕ) (es : List Entry) (to : ℕ) → Leads from es to → from ≤ to
rises_to from [] to h = omega arith
rises_to from (x ∷ xs) to h = next_up from x to h.0 (rises_to x.level xs to h.1)

-- no entry stands above the level to which they lead
pub level_le : (from : ℕ) (es : List Entry) (to : ℕ) → Leads from es to → (e : Entry) → Contains es e → e.level ≤ to
level_le from [] to h e there = absurd (Contains-nil e there)
level_le from (x ∷ xs) to h e there = elim (Contains-cons_cases x xs e there) [
  | inl same ↦ omega (arith, ap (λ (y : Entry). y.level) same, rises_to x.level xs to h.1)
  | inr t ↦ level_le x.level xs to h.1 e t
]

upto_by : (level : ℕ) (x : Entry) (xs : List Entry) (to : ℕ) → Leads x.level xs to → (b : Bool)
    → (b ≡ false → level < x.level) → upto level xs ≡ take (length (upto level xs)) xs
    → cond b (x ∷ upto level xs) (upto level xs) ≡ take (length (cond b (x ∷ upto level xs) (upto level xs))) (x ∷ xs)
upto_by level x xs to leads true f ih = ap (λ r. x ∷ r) ih
upto_by level x xs to leads false f ih = let none = all_above level x.level xs to (f refl) leads in rw none refl

-- the entries of the levels up to one of them come first
pub upto-take : (level from : ℕ) (es : List Entry) (to : ℕ) → Leads from es to
    → upto level es ≡ take (length (upto level es)) es
upto-take level from [] to h = refl
upto-take level from (x ∷ xs) to h = upto_by level x xs to h.1 (nat_le x.level level) (λ e. grind (arith, nat_tests))
    (upto-take level x.level xs to h.1)

passes : (a b : ℕ) → a ≤ b → nat_le a b ≡ true
passes a b h = grind (arith, nat_tests)

fails : (a b : ℕ) → b < a → nat_le a b ≡ false
fails a b h = grind (arith, nat_tests)

-- an entry of a level up to this one
pub in_upto : (level : ℕ) (es : List Entry) (e : Entry) → Contains es e → e.level ≤ level → Contains (upto level es) e
in_upto level es e there le = Contains-filter (λ (x : Entry). nat_le x.level level) es e there (passes e.level level le)

-- an entry up to a level is one of the entries, and not above the level
pub from_upto : (level : ℕ) (es : List Entry) (e : Entry) → Contains (upto level es) e → Contains es e
    × (e.level ≤ level)
from_upto level es e there =
    let pass : nat_le e.level level ≡ true =
    All-contains (λ (x : Entry). nat_le x.level level ≡ true) (upto level es) e
    (filter_passes (λ (x : Entry). nat_le x.level level) es) there in (
      All-contains (Contains es) (upto level es) e
          (All-filter (λ (x : Entry). nat_le x.level level) (Contains es) es (All-contains_itself es)) there,
      grind (arith, nat_tests),
    )

-- entries above a level leave what stands up to it
pub upto-more : (level : ℕ) (es more : List Entry) → All (λ e. level < e.level) more
    → upto level (es ++ more) ≡ upto level es
upto-more level es more h = filter-append (λ (x : Entry). nat_le x.level level) es more
    ∙ rw (none level more h) (append-nil (upto level es)) where
      none : (level : ℕ) (more : List Entry) → All (λ e. level < e.level) more → upto level more ≡ []
      none level [] h = refl
      none level (x ∷ xs) h = rw (fails x.level level (All-head (λ (e : Entry). level < e.level) x xs h))
          (none level xs (All-tail (λ (e : Entry). level < e.level) x xs h))

-- all entries stand up to the level to which they lead
pub upto-all : (level from : ℕ) (es : List Entry) (to : ℕ) → Leads from es to → to ≤ level → upto level es ≡ es
upto-all level from [] to h le = refl
upto-all level from (x ∷ xs) to h le =
    let here : x.level ≤ level = omega (arith, rises_to x.level xs to h.1) in
    rw (passes x.level level here) (ap (λ r. x ∷ r) (upto-all level x.level xs to h.1 le))

upto-upto_by : (i : ℕ) (x : Entry) (rest more : List Entry) (b : Bool) → (b ≡ false → nat_le x.level i ≡ false)
    → upto i rest ≡ more
    → upto i (cond b (x ∷ rest) rest) ≡ cond (nat_le x.level i) (x ∷ more) more
upto-upto_by i x rest more true f e = rw e refl
upto-upto_by i x rest more false f e = rw (f refl) e

-- going back to a level, and then to a lower one
pub upto-upto : (i j : ℕ) (es : List Entry) → i ≤ j → upto i (upto j es) ≡ upto i es
upto-upto i j [] le = refl
upto-upto i j (x ∷ xs) le =
    upto-upto_by i x (upto j xs) (upto i xs) (nat_le x.level j) (λ f. grind (arith, nat_tests)) (upto-upto i j xs le)
