-- One slot more of a level, from the last to the first.
use Rattle.std.proofs.Common.{◌≡◌, ℕ, zero, suc, ◌+◌, ◌-◌, ◌<◌, ◌≤◌, List, [], ◌∷◌, map, take, drop, length}
use Rattle.std.proofs.Common.{length-append, get_or, drop-cons, refl, ◌∙◌, ap, arith}
use Rattle.std.specs.Prelude.{sum_by}
use Rattle.std.specs.List.{AllByRecursion}
use Rattle.std.proofs.lemmas.List.{length-map}
use Rattle.std.proofs.lemmas.List.Sums.{sum_by-cons}
use Rattle.am_gate.specs.Circuit.{Net}
use Rattle.am_gate.specs.Build.{Follows}
use Rattle.am_gate.proofs.Laws.{Follows-bind, Follows-answer}
use Rattle.am_blast.specs.Words.{zeros}
use Rattle.am_tree.specs.declared.slots.Argument.{Argument}
use Rattle.am_tree.specs.Trees.{Rules}
use Rattle.am_tree.specs.Slots.{Numbered, offered, shared, next_level}
use Rattle.am_tree.specs.Weights.{slot_weight, level_weight, block_weight}
use Rattle.am_tree.proofs.Laws.{IsOffered, are_offered}
use Rattle.am_slot.specs.Selectors.{width, widths, room}
use Rattle.am_slot.specs.Blocks.{slot_word, level_words, words}
use Rattle.am_slot.specs.inside.Fits.{AllStand}

most-drop : (f : ℕ → ℕ) (k : ℕ) (xs : List ℕ) → sum_by f (drop k xs) ≤ sum_by f xs
most-drop f zero xs = omega arith
most-drop f (suc k) [] = omega arith
most-drop f (suc k) (x ∷ xs) = omega (arith, most-drop f k xs, sum_by-cons f x xs)

length-next : (rules : Rules) (below n : ℕ) (ns : List ℕ) →
    length (next_level rules below (n ∷ ns)) ≡ length (shared rules below n) + length (next_level rules below ns)
length-next rules below n ns =
    length-append (map (λ (a : Argument). a.symbol) (shared rules below n)) (next_level rules below ns)
    ∙ ap (λ k. k + length (next_level rules below ns)) (length-map (shared rules below n) (λ (a : Argument). a.symbol))

most-next : (rules : Rules) (below k : ℕ) (ns : List ℕ) →
    length (next_level rules below (drop k ns)) ≤ length (next_level rules below ns)
most-next rules below zero ns = omega arith
most-next rules below (suc k) [] = omega arith
most-next rules below (suc k) (n ∷ ns) = omega (arith, most-next rules below k ns, length-next rules below n ns)

-- what the slot before place i adds
pub record Back (rules : Rules) (below : ℕ) (ns : List ℕ) (i n : ℕ) (w : ℕ) : Type 0 where
  pub items : drop (i - 1) ns ≡ n ∷ drop i ns
  pub wide : widths rules below (drop (i - 1) ns) ≡ width rules below n + widths rules below (drop i ns)
  pub children : length (next_level rules below (drop (i - 1) ns))
      ≡ length (shared rules below n) + length (next_level rules below (drop i ns))
  pub weight : level_weight rules w below (drop (i - 1) ns)
      ≡ slot_weight w (offered rules below n) + level_weight rules w below (drop i ns)
  pub most_wide : widths rules below (drop (i - 1) ns) ≤ widths rules below ns
  pub most_children : length (next_level rules below (drop (i - 1) ns)) ≤ length (next_level rules below ns)
  pub most_weight : level_weight rules w below (drop (i - 1) ns) ≤ level_weight rules w below ns

-- the slot before a place, and what follows it, are the level from one place earlier on
pub back : (rules : Rules) (below : ℕ) (ns : List ℕ) (i w : ℕ) → 0 < i → i ≤ length ns →
    Back rules below ns i (get_or ns (i - 1) 0) w
back rules below ns i w pos place =
    let n = get_or ns (i - 1) 0 in
    let l : i - 1 < length ns = omega (arith, pos, place) in
    let after : suc (i - 1) ≡ i = omega (arith, pos) in
    let items : drop (i - 1) ns ≡ n ∷ drop i ns = rw after at (drop-cons ns (i - 1) 0 l) in
    record {
      items = items;
      wide = ap (widths rules below) items ∙ sum_by-cons (width rules below) n (drop i ns);
      children = ap (λ l. length (next_level rules below l)) items ∙ length-next rules below n (drop i ns);
      weight =
          ap (level_weight rules w below) items
          ∙ sum_by-cons (λ (m : ℕ). slot_weight w (offered rules below m)) n (drop i ns);
      most_wide = most-drop (width rules below) (i - 1) ns;
      most_children = most-next rules below (i - 1) ns;
      most_weight = most-drop (λ (m : ℕ). slot_weight w (offered rules below m)) (i - 1) ns;
    }

-- the words of a level: those of the later slots, then the first slot's
pub Follows-level : (rules : Rules) (w : ℕ) (fields : List (List ℕ)) (below x n : ℕ) (ns : List ℕ)
    (next : List (List ℕ)) (a b c : Net) (rest : List (List ℕ)) (word : List ℕ) →
    Follows (level_words rules w fields below (x + width rules below n) ns (drop (length (shared rules below n)) next))
    a rest b →
    Follows
    (slot_word w fields (shared rules below n) (take (length (shared rules below n)) next) x (zeros w)
    (offered rules below n))
    b word c →
    Follows (level_words rules w fields below x (n ∷ ns) next) a (word ∷ rest) c
unfolding level_words
Follows-level rules w fields below x n ns next a b c rest word one two =
    Follows-bind _ one (Follows-bind _ two Follows-answer)

-- no slot, no word
pub Follows-no_slot : (rules : Rules) (w : ℕ) (fields : List (List ℕ)) (below x : ℕ) (next : List (List ℕ)) (a : Net) →
    Follows (level_words rules w fields below x [] next) a [] a
unfolding level_words
Follows-no_slot rules w fields below x next a = Follows-answer

stand_each : (rules : Rules) (below n : ℕ) (ps : List Numbered) → AllByRecursion (IsOffered rules below n) ps →
    AllStand (shared rules below n) ps
stand_each rules below n [] h = tt
stand_each rules below n (p ∷ ps) h = (h.0.inside, stand_each rules below n ps h.1)

-- the arguments of a slot's productions are its children
pub all_stand : (rules : Rules) (below n : ℕ) → AllStand (shared rules below n) (offered rules below n)
all_stand rules below n = stand_each rules below n (offered rules below n) (are_offered rules n below)

-- levels and those below them

-- a level has at most the selectors of it and those below it
pub room-widths : (rules : Rules) (below : ℕ) (ns : List ℕ) → widths rules below ns ≤ room rules below ns
unfolding room
room-widths rules zero ns = omega arith
room-widths rules (suc below) ns = omega arith

-- a level weighs at most what it and those below it weigh
pub weight-level : (rules : Rules) (w below : ℕ) (ns : List ℕ) →
    level_weight rules w below ns ≤ block_weight rules w below ns
unfolding block_weight
weight-level rules w zero ns = omega arith
weight-level rules w (suc below) ns = omega arith

less : (b : ℕ) → suc b - 1 ≡ b
less b = omega arith

-- the selectors of a level and those below it are the level's own, then the others
pub room-above : (rules : Rules) (below : ℕ) (ns : List ℕ) → 0 < below →
    room rules below ns ≡ widths rules below ns + room rules (below - 1) (next_level rules below ns)
unfolding room
room-above rules zero ns l = absurd (omega (arith, l))
room-above rules (suc below) ns l = rw (less below) refl

-- a level and those below it weigh what the level weighs and what the others do
pub weight-above : (rules : Rules) (w below : ℕ) (ns : List ℕ) → 0 < below →
    block_weight rules w below ns
    ≡ level_weight rules w below ns + block_weight rules w (below - 1) (next_level rules below ns)
unfolding block_weight
weight-above rules w zero ns l = absurd (omega (arith, l))
weight-above rules w (suc below) ns l = rw (less below) refl

-- below the last level there is none
pub next-last : (rules : Rules) (ns : List ℕ) → next_level rules 0 ns ≡ []
next-last rules [] = refl
next-last rules (n ∷ ns) = next-last rules ns

-- the words of the last level, over no others
pub Follows-last : (rules : Rules) (w : ℕ) (fields : List (List ℕ)) (x : ℕ) (ns : List ℕ) (a b : Net)
    (r : List (List ℕ)) →
    Follows (level_words rules w fields 0 x ns []) a r b → Follows (words rules w fields 0 x ns) a r b
unfolding words
Follows-last rules w fields x ns a b r h = h

-- the words of another level, after those of the next one
pub Follows-above : (rules : Rules) (w : ℕ) (fields : List (List ℕ)) (below x : ℕ) (ns : List ℕ) (a b c : Net)
    (next r : List (List ℕ)) →
    0 < below →
    Follows (words rules w fields (below - 1) (x + widths rules below ns) (next_level rules below ns)) a next b →
    Follows (level_words rules w fields below x ns next) b r c → Follows (words rules w fields below x ns) a r c
unfolding words
Follows-above rules w fields zero x ns a b c next r l one two = absurd (omega (arith, l))
Follows-above rules w fields (suc below) x ns a b c next r l one two = Follows-bind _ (rw (less below) at one) two
