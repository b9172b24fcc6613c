-- Intervals are walks from their least to their greatest word.
use Rattle.std.proofs.Common.{◌≡◌, ℕ, ◌^◌, ◌<◌, ◌≤◌, ◌⊎◌, inl, inr, ◌↔◌, refl, arith, ℤ, pos, ◌+ℤ◌, ◌≤ℤ◌, ◌<ℤ◌, Bool}
use Rattle.std.proofs.Common.{true, false, int_lt, if◌then◌else◌, List}
use Rattle.std.proofs.lemmas.Int.{ints}
use Rattle.am_bv.specs.Words.{IsWidth, signed}
use Rattle.am_bv.specs.declared.op.Op.{Op}
use Rattle.am_domain.specs.Walk.{steps}
use Rattle.am_domain.specs.AnchoredLaws.{HasStart, HasPoints, KeepsStart, WalksMembers, HasParts}
use Rattle.am_domain.proofs.Laws.{Contains-walk, part-IsPart, steps-cases, steps-word}
use Rattle.am_interval.specs.Intervals.{Reading, unsigned, least, greatest}
use Rattle.am_interval.specs.Domains.{interval_domain}
use Rattle.am_interval.specs.lemmas.Laws.{has_members}
use Rattle.am_interval.specs.lemmas.Numbers.{signed_cases}

-- so many steps lead from x to y, upwards or round by p
abbrev pub Leads : ℕ → ℕ → ℤ → ℤ → Type 0
Leads p s x y = ((x ≤ℤ y) × ((x +ℤ pos s) ≡ y)) ⊎ ((y <ℤ x) × ((x +ℤ pos s) ≡ (y +ℤ pos p)))

-- the steps from one word to another lead from its number to the other's
abbrev pub IsModular : Reading → Type 0
IsModular number =
    (w c d : ℕ) → IsWidth w → c < 2 ^ w → d < 2 ^ w → Leads (2 ^ w) (steps w c d) (number w c) (number w d)

-- steps lead from a word to another as their unsigned numbers do
pub unsigned-IsModular : IsModular unsigned
unsigned-IsModular w c d width hc hd = grind (arith, ints, steps-cases w c d hc hd)

-- steps lead from a word to another as their signed numbers do
pub signed-IsModular : IsModular signed
signed-IsModular w c d width hc hd = grind (arith, ints, steps-cases w c d hc hd, signed_cases w c, signed_cases w d)

-- a number is between two others where no more steps lead to it than to the second
between-steps : (p s t u : ℕ) (x y z : ℤ) → u < p → x ≤ℤ z → Leads p s x y → Leads p t x z → Leads p u y z →
    ((x ≤ℤ y) × (y ≤ℤ z)) ↔ (s ≤ t)
between-steps p s t u x y z h order one two three = grind (arith, ints, one, two, three)

in_order : (p s t : ℕ) (x y z : ℤ) → x ≤ℤ y → x ≤ℤ z → s ≤ t → Leads p s x y → Leads p t x z → y ≤ℤ z
in_order p s t x y z first second order one two = grind (arith, ints, one, two)

either : (b : Bool) (c d : ℕ) → ((if b then d else c) ≡ c) ⊎ ((if b then d else c) ≡ d)
either true c d = inr refl
either false c d = inl refl

module _ (number : Reading) (top : ℕ → List ℕ) (at_most : Op) where
  -- each interval has its least end as a member
  pub has_start : HasStart (interval_domain number top at_most)
  has_start w width a h = (has_members number top at_most w width a h).1

  -- the interval of one word begins and ends with it
  pub has_points : HasPoints (interval_domain number top at_most)
  has_points w c h = refl

  -- the hull of two intervals begins where one of them does
  pub keeps_start : KeepsStart (interval_domain number top at_most)
  keeps_start w width a b ha hb = either (int_lt (number w (least b)) (number w (least a))) (least a) (least b)

module _ (number : Reading) (top : ℕ → List ℕ) (at_most : Op) (modular : IsModular number) where
  -- the members of an interval are the words on the walk from its least end to its greatest
  pub walks_members : WalksMembers (interval_domain number top at_most)
  walks_members w width a h c below =
      let first = h.tuple.words 0 in
      let last = h.tuple.words 1 in
      let among = Contains-walk w a c h.tuple below in
      let between = between-steps (2 ^ w) _ _ _ _ _ _ (steps-word w c (greatest a)) h.valid
      (modular w (least a) c width first below) (modular w (least a) (greatest a) width first last)
      (modular w c (greatest a) width below last) in
      (λ member. among.1 (between.0 member), λ found. between.1 (among.0 found))

  -- the interval from a member to a later one on the walk has the words of that part of the walk
  pub has_parts : HasParts (interval_domain number top at_most)
  has_parts w width a h c e hc he in_c in_e order =
      let first = h.tuple.words 0 in
      part-IsPart (interval_domain number top at_most) refl walks_members w width a h c e hc he order
      (in_order (2 ^ w) _ _ _ _ _ in_c.0 in_e.0 order (modular w (least a) c width first hc)
      (modular w (least a) e width first he))
