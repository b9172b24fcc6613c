-- The marks of the chains that a log's last chain needs, and the counts of the kept ones.
use Rattle.std.proofs.Common.{ℕ, zero, suc, ◌≡◌, ◌≢◌, ◌+◌, ◌-◌, ◌<◌, ◌≤◌, Bool, true, false, cond, ltb, List, [], ◌∷◌}
use Rattle.std.proofs.Common.{◌++◌, length, map, get_or, set, take, drop, append_assoc, refl, sym, ap, ◌∙◌, inl, inr}
use Rattle.std.proofs.Common.{arith, add-one, get_or-set_same, get_or-set_other}
use Rattle.std.specs.Prelude.{Contains, ◌⊎◌, ◌↔◌, Some, slice_get}
use Rattle.std.proofs.lemmas.Option.{slice_get_within}
use Rattle.std.proofs.lemmas.Bool.{ltb-false}
use Rattle.std.proofs.lemmas.List.{drop_more}
use Rattle.std.proofs.Math.Seq.{take-append_seam}
use mir.Val.{bool_byte}
use Rattle.am_lit.proofs.Laws.{Contains-head, Contains-tail, Contains-cons_cases, same_or}
use Rattle.am_chain.specs.declared.chain.Step.{Step}
use Rattle.am_chain.specs.declared.chain.Chain.{Chain}
use Rattle.am_chain.specs.Trimmed.{AreNeeded, Names, kept_below, kept_chains, moved_chain, moved_number, moved_step}
use Rattle.am_chain.specs.inside.Marks.{mark_at}
use Rattle.am_chain.specs.inside.Numbers.{AreNeededFrom, NamesBelow, renumbered}
use Rattle.am_chain.proofs.Marking.{clash}

-- a chain's clause with a number is marked
pub need_set : (old : List Bool) (p g n : ℕ) → p ≡ n - g → g ≤ n → p < length old → (k : ℕ)
    → (mark_at (set old p true) k ≡ true) ↔ ((mark_at old k ≡ true) ⊎ ((k < length old) × (n ≡ g + k)))
need_set old p g n e ge lt k = (
  (λ t. elim (same_or k p) [
    | inl same ↦ inr (omega arith, omega arith)
    | inr ne ↦ inl (rw get_or-set_other at t)
  ]),
  (λ s. elim s [
    | inl t ↦ elim (same_or k p) [
      | inl same ↦ rw same (get_or-set_same old p true false lt)
      | inr ne ↦ rw get_or-set_other t
    ]
    | inr h ↦ let same : k ≡ p = omega (arith, h.1) in rw same (get_or-set_same old p true false lt)
  ]),
)

-- nothing is marked where the number is no chain's of the log
pub need_none : (old : List Bool) (g n : ℕ) → ((k : ℕ) → k < length old → n ≢ g + k) → (k : ℕ)
    → (mark_at old k ≡ true) ↔ ((mark_at old k ≡ true) ⊎ ((k < length old) × (n ≡ g + k)))
need_none old g n h k = ((λ t. inl t), (λ s. elim s [ inl t ↦ t | inr b ↦ absurd (h k b.0 b.1) ]))

-- a step names the clause
abbrev pub HasStep : List Step → ℕ → Type 0
HasStep steps n = (step : Step) × Contains steps step × (step.clause ≡ n)

-- with the marks of a chain's steps that are left, the marks are those of all clauses that it names
abbrev pub LeavesSteps : ℕ → List Bool → Chain → List Bool → List Step → Type 0
LeavesSteps g old chain now left = (k : ℕ)
    → ((mark_at now k ≡ true) ⊎ ((k < length old) × HasStep left (g + k)))
    ↔ ((mark_at old k ≡ true) ⊎ ((k < length old) × Names chain (g + k)))

-- with the first clause marked, the marks of the steps are left
pub first_needed : (g : ℕ) (old now : List Bool) (chain : Chain)
    → ((k : ℕ) → (mark_at now k ≡ true) ↔ ((mark_at old k ≡ true) ⊎ ((k < length old) × (chain.first ≡ g + k))))
    → LeavesSteps g old chain now chain.steps
first_needed g old now chain h k = (
  (λ s. elim s [
    | inl t ↦ elim ((h k).0 t) [ inl a ↦ inl a | inr b ↦ inr (b.0, inl b.1) ]
    | inr b ↦ inr (b.0, inr b.1)
  ]),
  (λ s. elim s [
    | inl a ↦ inl ((h k).1 (inl a))
    | inr b ↦ elim b.1 [ inl e ↦ inl ((h k).1 (inr (b.0, e))) | inr t ↦ inr (b.0, t) ]
  ]),
)

-- with one step marked, the marks of the other steps are left
pub step_needed : (g : ℕ) (old now new : List Bool) (chain : Chain) (steps : List Step) (step : Step)
    → length now ≡ length old
    → ((k : ℕ) → (mark_at new k ≡ true) ↔ ((mark_at now k ≡ true) ⊎ ((k < length now) × (step.clause ≡ g + k))))
    → LeavesSteps g old chain now (step ∷ steps)
    → LeavesSteps g old chain new steps
step_needed g old now new chain steps step len need h k = (
  (λ s. elim s [
    | inl t ↦ elim ((need k).0 t) [
      | inl a ↦ (h k).0 (inl a)
      | inr b ↦ (h k).0 (inr (omega (arith, b.0, len), (step, Contains-head step steps, b.1)))
    ]
    | inr b ↦ (h k).0 (inr (b.0, (b.1.0, Contains-tail step steps b.1.0 b.1.1, b.1.2)))
  ]),
  (λ s. elim ((h k).1 s) [
    | inl a ↦ inl ((need k).1 (inl a))
    | inr b ↦ elim (Contains-cons_cases step steps b.1.0 b.1.1) [
      | inl same ↦ inl ((need k).1 (inr (omega (arith, b.0, len), ap (λ (x : Step). x.clause) same ∙ b.1.2)))
      | inr later ↦ inr (b.0, (b.1.0, later, b.1.2))
    ]
  ]),
)

-- with no step left, the marks are those of all clauses that the chain names
pub all_needed : (g : ℕ) (old now : List Bool) (chain : Chain) → LeavesSteps g old chain now [] → (k : ℕ)
    → (mark_at now k ≡ true) ↔ ((mark_at old k ≡ true) ⊎ ((k < length old) × Names chain (g + k)))
all_needed g old now chain h k = (
  (λ t. (h k).0 (inl t)),
  (λ s. elim ((h k).1 s) [ inl t ↦ t | inr b ↦ absurd (omega (arith, b.1.1.1)) ]),
)

same_chain : (log : List Chain) (j k : ℕ) (a b : Chain) → j ≡ k → slice_get log j ≡ Some a → slice_get log k ≡ Some b
    → a ≡ b
same_chain log j k a b e p q = let r = sym p ∙ ap (slice_get log) e ∙ q in cc

module _ (given k : ℕ) (log : List Chain) (below : NamesBelow given log) where
  -- nothing is passed on from a chain that isn't needed
  pub passed_over : (keeps : ℕ → Bool) → keeps k ≡ false → AreNeededFrom (k + 1) given log keeps
      → AreNeededFrom k given log keeps
  passed_over keeps off h i lt = (
    (λ t. elim ((h i lt).0 t) [ inl last ↦ inl last | inr b ↦ inr (b.0, b.1, b.2, omega (arith, b.3), b.4, b.5) ]),
    (λ s. (h i lt).1 (elim s [
      | inl last ↦ inl last
      | inr b ↦ elim (same_or b.0 k) [
        | inl e ↦ absurd (clash (keeps b.0) b.4 (ap keeps e ∙ off))
        | inr ne ↦ inr (b.0, b.1, b.2, omega (arith, b.3), b.4, b.5)
      ]
    ])),
  )

  -- a needed chain makes needed those that it names
  pub passed_on : (old new : List Bool) (chain : Chain) → slice_get log k ≡ Some chain → length old ≡ length log
      → mark_at old k ≡ true
      → ((i : ℕ) → (mark_at new i ≡ true) ↔ ((mark_at old i ≡ true) ⊎ ((i < length old) × Names chain (given + i))))
      → AreNeededFrom (k + 1) given log (mark_at old)
      → AreNeededFrom k given log (mark_at new)
  passed_on old new chain at len on need h i lt = (into, from) where
    unchanged : (j : ℕ) → k ≤ j → mark_at new j ≡ true → mark_at old j ≡ true
    unchanged j le t = elim ((need j).0 t)
        [ inl a ↦ a | inr b ↦ absurd (omega (arith, below k chain at (given + j) b.1)) ]

    into : mark_at new i ≡ true
        → (i + 1 ≡ length log)
        ⊎ ((j : ℕ) × (c : Chain) × (slice_get log j ≡ Some c) × (k ≤ j) × (mark_at new j ≡ true) × Names c (given + i))
    into t = elim ((need i).0 t) [
      | inl a ↦ elim ((h i lt).0 a) [
        | inl last ↦ inl last
        | inr b ↦ inr (b.0, b.1, b.2, omega (arith, b.3), (need b.0).1 (inl b.4), b.5)
      ]
      | inr b ↦ inr (k, chain, at, omega arith, (need k).1 (inl on), b.1)
    ]

    from : (i + 1 ≡ length log)
        ⊎ ((j : ℕ) × (c : Chain) × (slice_get log j ≡ Some c) × (k ≤ j) × (mark_at new j ≡ true) × Names c (given + i))
        → mark_at new i ≡ true
    from (inl last) = (need i).1 (inl ((h i lt).1 (inl last)))
    from (inr b) = elim (same_or b.0 k) [
      | inl e ↦ (need i).1 (inr (omega (arith, len), rw (same_chain log b.0 k b.1 chain e b.2 at) at b.5))
      | inr ne ↦ (need i).1 (inl ((h i lt).1 (inr (b.0, b.1, b.2, omega (arith, b.3), unchanged b.0 b.3 b.4, b.5))))
    ]

-- one more mark at the end of a list
pub push_mark : (marks : List Bool) (b : Bool) (i : ℕ)
    → (mark_at (marks ++ b ∷ []) i ≡ true) ↔ ((mark_at marks i ≡ true) ⊎ ((i ≡ length marks) × (b ≡ true)))
push_mark [] b zero = ((λ t. inr (refl, t)), (λ s. elim s [ inl t ↦ absurd (clash false t refl) | inr h ↦ h.1 ]))
push_mark [] b (suc i) =
    ((λ t. absurd (clash false t refl)), (λ s. elim s [ inl t ↦ t | inr h ↦ absurd (omega (arith, h.0)) ]))
push_mark (m ∷ ms) b zero = ((λ t. inl t), (λ s. elim s [ inl t ↦ t | inr h ↦ absurd (omega (arith, h.0)) ]))
push_mark (m ∷ ms) b (suc i) = (
  (λ t. elim ((push_mark ms b i).0 t) [ inl a ↦ inl a | inr h ↦ inr (ap suc h.0, h.1) ]),
  (λ s. (push_mark ms b i).1 (elim s [ inl a ↦ inl a | inr h ↦ inr (omega (arith, h.0), h.1) ])),
)

-- a chain moved by the list of counts is the chain moved by the counts
module _ (given : ℕ) (keeps : ℕ → Bool) (before : List ℕ)
    (counts : (k : ℕ) → k < length before → get_or before k 0 ≡ kept_below keeps k) where
  same_number : (n : ℕ) → n < given + length before → renumbered given before n ≡ moved_number given keeps n
  same_number n h = go (ltb n given) refl where
    go : (b : Bool) → ltb n given ≡ b
        → cond b n (given + get_or before (n - given) 0) ≡ cond b n (given + kept_below keeps (n - given))
    go true e = refl
    go false e = ap (λ m. given + m) (counts (n - given) (omega (arith, h, past e))) where
      past : ltb n given ≡ false → given ≤ n
      past f = ltb-false n given f

  same_steps : (steps : List Step) → ((step : Step) → Contains steps step → step.clause < given + length before)
      → map (moved_step (renumbered given before)) steps ≡ map (moved_step (moved_number given keeps)) steps
  same_steps [] h = refl
  same_steps (step ∷ steps) h =
      let first = same_number step.clause (h step (Contains-head step steps)) in
      let rest = same_steps steps (λ s k. h s (Contains-tail step steps s k)) in
      rw (first, rest) refl

  -- a chain is moved alike by the counts and by the kept chains themselves
  pub same_moved : (chain : Chain) → ((n : ℕ) → Names chain n → n < given + length before)
      → moved_chain (renumbered given before) chain ≡ moved_chain (moved_number given keeps) chain
  same_moved chain h =
      let first = same_number chain.first (h chain.first (inl refl)) in
      let rest = same_steps chain.steps (λ s k. h s.clause (inr (s, k, refl))) in
      rw (first, rest) refl

-- a list written back
pub written : {X : Type 0} (n : ℕ) (new items : List X) → n ≡ length new → take n (new ++ drop (length new) items) ≡ new
written n new items e = rw e (take-append_seam new (drop (length new) items))

read_left : (xs : List ℕ) (y k : ℕ) → k < length xs → get_or (xs ++ y ∷ []) k 0 ≡ get_or xs k 0
read_left [] y k lt = absurd (omega arith)
read_left (x ∷ xs) y zero lt = refl
read_left (x ∷ xs) y (suc k) lt = read_left xs y k (omega arith)

read_end : (xs : List ℕ) (y : ℕ) → get_or (xs ++ y ∷ []) (length xs) 0 ≡ y
read_end [] y = refl
read_end (x ∷ xs) y = read_end xs y

-- one more count
pub count_more : (keeps : ℕ → Bool) (i count : ℕ) → count ≡ kept_below keeps i
    → count + bool_byte (keeps i) ≡ kept_below keeps (i + 1)
count_more keeps i count e = rw (e, add-one) (go (keeps i)) where
  go : (b : Bool) → kept_below keeps i + bool_byte b ≡ kept_below keeps i + cond b 1 0
  go true = refl
  go false = refl

-- the counts before each place, and one count more
pub counts_more : (keeps : ℕ → Bool) (i count : ℕ) (before after : List ℕ) → length before ≡ i
    → after ≡ before ++ count ∷ [] → count ≡ kept_below keeps i
    → ((k : ℕ) → k < i → get_or before k 0 ≡ kept_below keeps k) → (k : ℕ) → k < i + 1
    → get_or after k 0 ≡ kept_below keeps k
counts_more keeps i count before after len e is h k lt = elim (same_or k i) [
  | inl same ↦
      let here : k ≡ length before = omega arith in
      rw e
      (ap (λ n. get_or (before ++ count ∷ []) n 0) here ∙ read_end before count ∙ is ∙ ap (kept_below keeps) (sym same))
  | inr ne ↦ let low : k < length before = omega arith in rw e (read_left before count k low ∙ h k (omega arith))
]

-- one more item of a mapped list
pub map_more : (f : Step → Step) (xs : List Step) (i : ℕ) (d y : Step) (acc after : List Step) → i < length xs
    → after ≡ acc ++ y ∷ [] → y ≡ f (get_or xs i d)
    → acc ++ map f (drop i xs) ≡ map f xs → after ++ map f (drop (i + 1) xs) ≡ map f xs
map_more f xs i d y acc after lt e is h = rw (e, is, append_assoc) (rw (drop_more xs i d lt) at h)

module _ (move : ℕ → ℕ) (keeps : ℕ → Bool) (log : List Chain) (i : ℕ) (d : Chain) (acc whole : List Chain)
    (lt : i < length log) (h : acc ++ kept_chains move keeps i (drop i log) ≡ whole) where
  split : acc
      ++ cond (keeps i) (moved_chain move (get_or log i d) ∷ kept_chains move keeps (suc i) (drop (i + 1) log))
      (kept_chains move keeps (suc i) (drop (i + 1) log))
      ≡ whole
  split = rw (drop_more log i d lt) at h

  -- a chain is kept
  pub kept_more : (y : Chain) (after : List Chain) → keeps i ≡ true → after ≡ acc ++ y ∷ []
      → y ≡ moved_chain move (get_or log i d)
      → after ++ kept_chains move keeps (i + 1) (drop (i + 1) log) ≡ whole
  kept_more y after t e is =
      let at : acc ++ (moved_chain move (get_or log i d) ∷ kept_chains move keeps (suc i) (drop (i + 1) log)) ≡ whole =
      rw t at split in
      let next : suc i ≡ i + 1 = omega arith in
      rw (e, is, append_assoc) (rw next at at)

  -- a chain isn't kept
  pub kept_skip : keeps i ≡ false → acc ++ kept_chains move keeps (i + 1) (drop (i + 1) log) ≡ whole
  kept_skip f =
      let at : acc ++ kept_chains move keeps (suc i) (drop (i + 1) log) ≡ whole = rw f at split in
      let next : suc i ≡ i + 1 = omega arith in
      rw next at at

-- where only the last chain is marked, nothing has been passed on yet
pub none_passed : (given n : ℕ) (log : List Chain) (keeps : ℕ → Bool) → n ≡ length log
    → ((k : ℕ) → (keeps k ≡ true) ↔ (k + 1 ≡ n))
    → AreNeededFrom n given log keeps
none_passed given n log keeps e last k lt = (
  (λ t. inl ((last k).0 t ∙ e)),
  (λ s. elim s [
    | inl is ↦ (last k).1 (is ∙ sym e)
    | inr b ↦ absurd (omega (arith, slice_get_within log b.0 b.1 b.2, b.3))
  ]),
)

-- all was passed on
pub all_passed : (given n : ℕ) (log : List Chain) (keeps : ℕ → Bool) → n ≤ 0 → AreNeededFrom n given log keeps
    → AreNeeded given log keeps
all_passed given n log keeps z h k lt = (
  (λ t. elim ((h k lt).0 t) [ inl last ↦ inl last | inr b ↦ inr (b.0, b.1, b.2, b.4, b.5) ]),
  (λ s. (h k lt).1 (elim s [ inl last ↦ inl last | inr b ↦ inr (b.0, b.1, b.2, omega arith, b.3, b.4) ])),
)
