-- Words that follow one another modulo 2 ^ w.
use Rattle.std.proofs.Common.{◌≡◌, ℕ, zero, suc, ◌+◌, ◌-◌, ◌%◌, ◌^◌, ◌<◌, ◌≤◌, ◌⊎◌, inl, inr, ◌↔◌, List, length, get_or}
use Rattle.std.proofs.Common.{slice_index, refl, ap, sym, ◌∙◌, arith}
use Rattle.std.specs.Prelude.{Contains}
use Rattle.std.proofs.Math.Nat.{mod-add-mod, mod-eq_of_lt, mod-eq-sub-mod, mod-lt}
use Rattle.std.proofs.lemmas.Bool.{cases_lt}
use Rattle.std.proofs.lemmas.Nat.{pow_pos}
use Rattle.am_domain.specs.Tuple.{IsTuple}
use Rattle.am_domain.specs.Walk.{steps, upwards, walk}

-- less than twice a number, modulo it
mod-once : (p n : ℕ) → p ≤ n → n < p + p → n % p ≡ n - p
mod-once p n least most = mod-eq-sub-mod least ∙ mod-eq_of_lt (omega arith)

-- the number of steps is a word
pub steps-word : (w c d : ℕ) → steps w c d < 2 ^ w
steps-word w c d = mod-lt _ (pow_pos w)

-- the number of steps, by whether the walk passes the greatest word
pub steps-cases : (w c d : ℕ) → c < 2 ^ w → d < 2 ^ w →
    ((c ≤ d) × (steps w c d + c ≡ d)) ⊎ ((d < c) × (steps w c d + c ≡ d + 2 ^ w))
steps-cases w c d hc hd =
    elim (cases_lt d c) [
      | inl less ↦ let e : steps w c d ≡ d + (2 ^ w - c) = mod-eq_of_lt (omega arith) in inr (less, omega (arith, e))
      | inr most ↦
          let e : steps w c d ≡ d + (2 ^ w - c) - 2 ^ w = mod-once (2 ^ w) _ (omega arith) (omega arith) in
          inl (most, omega (arith, e))
    ]

-- steps from one word to another, and on to a third
pub steps-on : (w c d e : ℕ) → c < 2 ^ w → d < 2 ^ w → e < 2 ^ w →
    ((steps w c d ≤ steps w c e) × (steps w d e + steps w c d ≡ steps w c e))
    ⊎ ((steps w c e < steps w c d) × (steps w d e + steps w c d ≡ steps w c e + 2 ^ w))
steps-on w c d e hc hd he =
    by_cases _ _ _ _ _ _ _ hc hd he (steps-cases w c d hc hd) (steps-cases w c e hc he) (steps-cases w d e hd he)
  where
    by_cases : (p c d e s t u : ℕ) → c < p → d < p → e < p →
        ((c ≤ d) × (s + c ≡ d)) ⊎ ((d < c) × (s + c ≡ d + p)) → ((c ≤ e) × (t + c ≡ e)) ⊎ ((e < c) × (t + c ≡ e + p)) →
        ((d ≤ e) × (u + d ≡ e)) ⊎ ((e < d) × (u + d ≡ e + p)) → ((s ≤ t) × (u + s ≡ t)) ⊎ ((t < s) × (u + s ≡ t + p))
    by_cases p c d e s t u hc hd he one two three = grind (arith, one, two, three)

-- no steps lead from a word to itself
pub steps-self : (w c : ℕ) → c < 2 ^ w → steps w c c ≡ 0
steps-self w c h = elim (steps-cases w c c h h)
    [ inl up ↦ omega (arith, up.1) | inr round ↦ absurd (omega (arith, round.0)) ]

-- so many steps lead to the word so many places on
pub steps-upwards : (w c i : ℕ) → c < 2 ^ w → i < 2 ^ w → steps w c ((c + i) % 2 ^ w) ≡ i
steps-upwards w c i hc hi =
    elim (cases_lt (c + i) (2 ^ w)) [
      | inl less ↦ arrives (c + i) (mod-eq_of_lt less) (omega arith) (inl refl)
      | inr more ↦
          arrives (c + i - 2 ^ w) (mod-eq-sub-mod more ∙ mod-eq_of_lt (omega arith)) (omega arith) (inr (omega arith))
    ]
  where
    arrives : (e : ℕ) → (c + i) % 2 ^ w ≡ e → e < 2 ^ w → (c + i ≡ e) ⊎ (c + i ≡ e + 2 ^ w) →
        steps w c ((c + i) % 2 ^ w) ≡ i
    arrives e at he sum = rw at (elim (steps-cases w c e hc he) [
      | inl up ↦ elim sum [ inl x ↦ omega (arith, up.1) | inr x ↦ absurd (omega (arith, up.0)) ]
      | inr round ↦ elim sum [ inl x ↦ absurd (omega (arith, round.0)) | inr x ↦ omega (arith, round.1) ]
    ])

-- so many words
pub length-upwards : (w n c : ℕ) → length (upwards w n c) ≡ n
length-upwards w zero c = refl
length-upwards w (suc n) c = ap suc (length-upwards w n ((c + 1) % 2 ^ w))

-- the word at a place
pub get_or-upwards : (w n c i d : ℕ) → c < 2 ^ w → i < n → get_or (upwards w n c) i d ≡ (c + i) % 2 ^ w
get_or-upwards w zero c i d h below = absurd (omega arith)
get_or-upwards w (suc n) c zero d h below = sym (mod-eq_of_lt (let e : c + 0 < 2 ^ w = omega arith in e) ∙ omega arith)
get_or-upwards w (suc n) c (suc i) d h below =
    let e : c + 1 + i ≡ c + suc i = omega arith in
    get_or-upwards w n ((c + 1) % 2 ^ w) i d (mod-lt _ (pow_pos w)) (omega arith) ∙ mod-add-mod (c + 1) (2 ^ w) i
    ∙ ap (λ k. k % 2 ^ w) e

-- a word is among so many words exactly where so many steps lead to it
pub Contains-upwards : (w n c e : ℕ) → c < 2 ^ w → e < 2 ^ w → n ≤ 2 ^ w →
    Contains (upwards w n c) e ↔ (steps w c e < n)
Contains-upwards w n c e hc he most = (
  λ found.
      let below : found.0 < n = omega (arith, found.1, length-upwards w n c) in
      let at : e ≡ (c + found.0) % 2 ^ w = sym found.2 ∙ get_or-upwards w n c found.0 e hc below in
      let s = steps-cases w c e hc he in
      elim (cases_lt (c + found.0) (2 ^ w)) [
        | inl less ↦ let here = mod-eq_of_lt less in grind (arith, s, at, here)
        | inr more ↦ let here = mod-once (2 ^ w) (c + found.0) more (omega arith) in grind (arith, s, at, here)
      ],
  λ few.
      let at : (c + steps w c e) % 2 ^ w ≡ e = arrives in
      (steps w c e, omega (arith, length-upwards w n c), get_or-upwards w n c (steps w c e) e hc few ∙ at),
)
  where
    arrives : (c + steps w c e) % 2 ^ w ≡ e
    arrives = elim (steps-cases w c e hc he) [
      | inl up ↦ mod-eq_of_lt (let h : c + steps w c e < 2 ^ w = omega (arith, up.1) in h) ∙ omega (arith, up.1)
      | inr round ↦
          mod-once (2 ^ w) (c + steps w c e) (omega (arith, round.1)) (omega (arith, round.1)) ∙ omega (arith, round.1)
    ]

-- the words of a walk are those that no more steps lead to than to its end
pub Contains-walk : (w : ℕ) (a : List ℕ) (e : ℕ) → IsTuple w 2 a → e < 2 ^ w →
    Contains (walk w a) e ↔ (steps w (slice_index a 0) e ≤ steps w (slice_index a 0) (slice_index a 1))
Contains-walk w a e tuple h =
    let first = slice_index a 0 in
    let last = slice_index a 1 in
    let among = Contains-upwards w (suc (steps w first last)) first e (tuple.words 0) h (steps-word w first last) in
    (λ found. omega (arith, among.0 found), λ few. among.1 (omega (arith, few)))

-- the part of a walk between two of its words
pub part-between : (w start c d e : ℕ) → start < 2 ^ w → c < 2 ^ w → d < 2 ^ w → e < 2 ^ w →
    steps w start c ≤ steps w start d →
    (steps w c e ≤ steps w c d) ↔ ((steps w start c ≤ steps w start e) × (steps w start e ≤ steps w start d))
part-between w start c d e hs hc hd he order =
    by_cases _ _ _ _ _ _ (steps-word w start d) order (steps-on w start c d hs hc hd) (steps-on w start c e hs hc he)
  where
    by_cases : (p s t r u v : ℕ) → t < p → s ≤ t →
        ((s ≤ t) × (u + s ≡ t)) ⊎ ((t < s) × (u + s ≡ t + p)) → ((s ≤ r) × (v + s ≡ r)) ⊎ ((r < s) × (v + s ≡ r + p)) →
        (v ≤ u) ↔ ((s ≤ r) × (r ≤ t))
    by_cases p s t r u v h order one two = grind (arith, one, two)
