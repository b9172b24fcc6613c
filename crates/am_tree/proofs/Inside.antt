-- The nonterminals of the next level, and how many slots there are.
use Rattle.std.proofs.Common.{◌≡◌, ℕ, zero, suc, ◌+◌, ◌-◌, ◌<◌, ◌≤◌, Bool, true, false, cond, List, [], ◌∷◌, ◌++◌, map}
use Rattle.std.proofs.Common.{length, length-append, refl, ◌∙◌, ap, arith}
use Rattle.std.specs.Prelude.{All, slice_index_or}
use Rattle.std.specs.List.{AllByRecursion, list_any, flat_map}
use Rattle.std.proofs.lemmas.List.Elements.{All-from_recursion}
use Rattle.am_tree.specs.declared.grammar.Production.{Production}
use Rattle.am_tree.specs.declared.slots.Argument.{Argument}
use Rattle.am_tree.specs.declared.slots.Slot.{Slot}
use Rattle.am_tree.specs.Trees.{Rules}
use Rattle.am_tree.specs.Slots.{same, distinct, arguments, shared_by, shared, next_level, level_slots, slots_from}
use Rattle.am_tree.specs.Slots.{AreInside}

-- the nonterminals of the next level are some

module _ (n : ℕ) where
  abbrev Below : List Argument → Type 0
  Below xs = AllByRecursion (λ a. a.symbol < n) xs

  below-append : (xs ys : List Argument) → Below xs → Below ys → Below (xs ++ ys)
  below-append [] ys h k = k
  below-append (x ∷ xs) ys h k = (h.0, below-append xs ys h.1 k)

  below-distinct : (seen xs : List Argument) → Below seen → Below xs → Below (distinct seen xs)
  below-distinct seen [] h k = h
  below-distinct seen (x ∷ xs) h k =
      below-distinct (cond (list_any (same x) seen) seen (seen ++ x ∷ [])) xs (go (list_any (same x) seen)) k.1
    where
      go : (b : Bool) → Below (cond b seen (seen ++ x ∷ []))
      go true = h
      go false = below-append seen (x ∷ []) h (k.0, tt)

  below-flat : (ps : List Production) → AllByRecursion (λ p. Below (arguments p)) ps → Below (flat_map arguments ps)
  below-flat [] h = tt
  below-flat (p ∷ ps) h = below-append (arguments p) (flat_map arguments ps) h.0 (below-flat ps h.1)

  pub below-shared : (below : ℕ) (ps : List Production) → AllByRecursion (λ p. Below (arguments p)) ps →
      Below (shared_by below ps)
  below-shared zero ps h = tt
  below-shared (suc below) ps h = below-distinct [] (flat_map arguments ps) tt (below-flat ps h)

  below-symbols : (xs : List Argument) (ms : List ℕ) → Below xs → AllByRecursion (λ m. m < n) ms →
      AllByRecursion (λ m. m < n) (map (λ (a : Argument). a.symbol) xs ++ ms)
  below-symbols [] ms h k = k
  below-symbols (x ∷ xs) ms h k = (h.0, below-symbols xs ms h.1 k)

  -- where all arguments are below n, so are the nonterminals of the next level
  pub next-below : (rules : Rules) (below : ℕ) (ns : List ℕ) →
      ((m : ℕ) → AllByRecursion (λ p. Below (arguments p)) (slice_index_or rules m [])) →
      AllByRecursion (λ m. m < n) (next_level rules below ns)
  next-below rules below [] h = tt
  next-below rules below (m ∷ ns) h =
      below-symbols (shared rules below m) (next_level rules below ns) (below-shared below _ (h m))
      (next-below rules below ns h)

-- where all arguments are below n, those of one nonterminal's productions are
pub each-inside : (n : ℕ) (rules : Rules) → AreInside n rules → (m : ℕ) →
    AllByRecursion (λ p. AllByRecursion (λ a. a.symbol < n) (arguments p)) (slice_index_or rules m [])
each-inside n [] h m = tt
each-inside n (ps ∷ rules) h zero = h.0
each-inside n (ps ∷ rules) h (suc m) = each-inside n rules h.1 m

-- the nonterminals of the next level are some of the grammar's
pub next-inside : (n : ℕ) (rules : Rules) (below : ℕ) (ns : List ℕ) → AreInside n rules →
    All (λ m. m < n) (next_level rules below ns)
next-inside n rules below ns h =
    All-from_recursion (λ m. m < n) (next_level rules below ns) (next-below n rules below ns (each-inside n rules h))

-- how many slots there are

-- a level has one slot for each of its nonterminals
pub length-level : (rules : Rules) (below level child : ℕ) (ns : List ℕ) →
    length (level_slots rules below level child ns) ≡ length ns
length-level rules below level child [] = refl
length-level rules below level child (n ∷ ns) =
    ap suc (length-level rules below level (child + length (shared rules below n)) ns)

-- a level and those below it have at least a slot for each nonterminal of the level
pub slots-most : (rules : Rules) (below level first : ℕ) (ns : List ℕ) →
    length ns ≤ length (slots_from rules below level first ns)
unfolding slots_from
slots-most rules zero level first ns = omega (arith, length-level rules zero level (first + length ns) ns)
slots-most rules (suc below) level first ns =
    omega (
      arith,
      length-level rules (suc below) level (first + length ns) ns,
      length-append (level_slots rules (suc below) level (first + length ns) ns)
          (slots_from rules below (level + 1) (first + length ns) (next_level rules (suc below) ns)),
    )

less : (b : ℕ) → suc b - 1 ≡ b
less b = omega arith

-- a level that isn't the last is followed by the slots of those below it
pub slots-above : (rules : Rules) (below level first : ℕ) (ns : List ℕ) → 0 < below →
    slots_from rules below level first ns
    ≡ level_slots rules below level (first + length ns) ns
    ++ slots_from rules (below - 1) (level + 1) (first + length ns) (next_level rules below ns)
unfolding slots_from
slots-above rules zero level first ns l = absurd (omega (arith, l))
slots-above rules (suc below) level first ns l = rw (less below) refl

-- the last level is followed by none
pub slots-last : (rules : Rules) (level first : ℕ) (ns : List ℕ) →
    slots_from rules 0 level first ns ≡ level_slots rules 0 level (first + length ns) ns
unfolding slots_from
slots-last rules level first ns = refl

-- so many slots a level has that isn't the last, with those below it
pub length-above : (rules : Rules) (below level first : ℕ) (ns : List ℕ) → 0 < below →
    length (slots_from rules below level first ns)
    ≡ length ns + length (slots_from rules (below - 1) (level + 1) (first + length ns) (next_level rules below ns))
length-above rules below level first ns l =
    ap (λ (s : List Slot). length s) (slots-above rules below level first ns l)
    ∙ length-append (level_slots rules below level (first + length ns) ns) _
    ∙ ap (λ k. k + length (slots_from rules (below - 1) (level + 1) (first + length ns) (next_level rules below ns)))
    (length-level rules below level (first + length ns) ns)

next-last : (rules : Rules) (ns : List ℕ) → length (next_level rules 0 ns) ≡ 0
next-last rules [] = refl
next-last rules (n ∷ ns) = next-last rules ns

-- there are at least as many slots as this level and the next one have nonterminals
pub room-next : (rules : Rules) (below level first : ℕ) (ns : List ℕ) →
    length ns + length (next_level rules below ns) ≤ length (slots_from rules below level first ns)
room-next rules zero level first ns = omega (arith, next-last rules ns, slots-most rules zero level first ns)
room-next rules (suc below) level first ns =
    let pos : 0 < suc below = omega arith in
    omega (
      arith,
      length-above rules (suc below) level first ns pos,
      slots-most rules (suc below - 1) (level + 1) (first + length ns) (next_level rules (suc below) ns),
    )

abbrev pub slots_below : Rules → ℕ → ℕ → ℕ → List ℕ → ℕ
slots_below rules zero level first ns = 0
slots_below rules (suc below) level first ns =
    length (slots_from rules below (level + 1) (first + length ns) (next_level rules (suc below) ns))

-- a level has one slot for each of its nonterminals, and the levels below it follow
pub length-next_slots : (rules : Rules) (below level first : ℕ) (ns : List ℕ) →
    length (slots_from rules below level first ns) ≡ length ns + slots_below rules below level first ns
unfolding slots_from
length-next_slots rules zero level first ns = omega (arith, length-level rules zero level (first + length ns) ns)
length-next_slots rules (suc below) level first ns =
    length-append (level_slots rules (suc below) level (first + length ns) ns) _
    ∙ ap (λ k. k + length (slots_from rules below (level + 1) (first + length ns) (next_level rules (suc below) ns)))
    (length-level rules (suc below) level (first + length ns) ns)

-- the children of a nonterminal's slot are some of the grammar's nonterminals
pub shared-inside : (k : ℕ) (rules : Rules) → AreInside k rules → (n : ℕ) →
    AllByRecursion (λ (a : Argument). a.symbol < k) (shared_by 1 (slice_index_or rules n []))
shared-inside k rules h n = below-shared k 1 (slice_index_or rules n []) (each-inside k rules h n)
