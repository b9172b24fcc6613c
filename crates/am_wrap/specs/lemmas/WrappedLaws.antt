-- The laws of wrapped intervals.
use Rattle.std.proofs.Common.{◌≡◌, ◌≢◌, ℕ, ◌-◌, ◌^◌, ◌<◌, ◌≤◌, inl, inr, ◌↔◌, true, List, [], ◌∷◌, slice_index, take}
use Rattle.std.proofs.Common.{nat_lt, nat_le, refl, arith, lit≤}
use Rattle.std.proofs.lemmas.Bool.{lt-ltb}
use Rattle.std.proofs.lemmas.Bool.Decides.{nat_tests}
use Rattle.std.proofs.lemmas.Nat.{pow_pos}
use Rattle.am_bv.specs.Words.{one_if}
use Rattle.am_bv.specs.Terms.{val}
use Rattle.am_bv.proofs.Laws.{one_is_word, val-Const, val-Field, val-binary, fits-Const, fits-Field, fits-Node}
use Rattle.am_bv.proofs.Laws.{nodes-Const, nodes-Field, nodes-Node}
use Rattle.am_domain.specs.Meaning.{IsAbstract}
use Rattle.am_domain.specs.Laws.{HasMembers, HasTop, HoldsWords, JoinsAbove, Descends, Tidies, TellsValidity}
use Rattle.am_domain.specs.Laws.{TellsMembership, KeepsLaws}
use Rattle.am_domain.specs.AnchoredLaws.{HasStart, HasPoints, KeepsStart, WalksMembers, HasParts, IsAnchored}
use Rattle.am_domain.specs.Walk.{point, steps}
use Rattle.am_domain.proofs.Laws.{pair-IsTuple, by_three, steps-word, steps-cases, steps-self, Contains-walk}
use Rattle.am_domain.proofs.Laws.{part-IsPart}
use Rattle.am_wrap.specs.WrappedIntervals.{start, end, IsOnTheWay, wrapped_intervals, all_wrapped_intervals}
use Rattle.am_wrap.specs.WrappedIntervals.{wrapped_join, wrapped_member_term}
use Rattle.am_wrap.specs.lemmas.Lying.{Lies-members, wider, join-IsAbove}

-- each tuple is a value
value : (w c d : ℕ) → c < 2 ^ w → d < 2 ^ w → IsAbstract wrapped_intervals w (c ∷ d ∷ [])
value w c d h k = record { tuple = pair-IsTuple w c d h k; valid = tt }

-- the start is a member
starts : (w : ℕ) (a : List ℕ) → start a < 2 ^ w → IsOnTheWay w a (start a)
starts w a h = omega (arith, steps-self w (start a) h)

has_members : HasMembers all_wrapped_intervals
has_members w width a h = (h.tuple.words 0, starts w a (h.tuple.words 0))

has_top : HasTop all_wrapped_intervals
has_top w width = (
  value w 0 (2 ^ w - 1) (pow_pos w) (omega (arith, pow_pos w)),
  λ c below. omega (arith, all, steps-word w 0 c),
)
  where
    all : steps w 0 (2 ^ w - 1) ≡ 2 ^ w - 1
    all =
        let last : 2 ^ w - 1 < 2 ^ w = omega (arith, pow_pos w) in
        elim (steps-cases w 0 (2 ^ w - 1) (pow_pos w) last)
        [ inl up ↦ omega (arith, up.1) | inr round ↦ absurd (omega (arith, round.0)) ]

holds_words : HoldsWords all_wrapped_intervals
holds_words w width c h = (value w c c h h, starts w (point c) h)

joins_above : JoinsAbove all_wrapped_intervals
joins_above w width a b ha hb =
    let above = join-IsAbove w (one_is_word w width.0) a b ha.tuple hb.tuple in
    record {
      value = record { tuple = above.tuple; valid = tt };
      first = Lies-members w a _ ha.tuple above.tuple above.first;
      second = Lies-members w b _ hb.tuple above.tuple above.second;
    }

descends : Descends all_wrapped_intervals
descends = record {
  most = λ w width a h. omega arith;
  falls = λ w width a b ha hb changed.
      let above = join-IsAbove w (one_is_word w width.0) a b ha.tuple hb.tuple in
      elim above.kept [
        | inl same ↦ absurd (changed same)
        | inr apart ↦ omega (
          arith,
          wider w a b (wrapped_join w a b) ha.tuple hb.tuple above.tuple above.first above.second apart,
          steps-word w (start (wrapped_join w a b)) (end (wrapped_join w a b)),
        )
      ];
}

tidies : Tidies all_wrapped_intervals
tidies w width raw tuple = (record { tuple = tuple; valid = tt }, λ c below member. member)

tells_validity : TellsValidity all_wrapped_intervals
tells_validity w width =
    let one : nat_lt 1 (2 ^ w) ≡ true = lt-ltb 1 (2 ^ w) (one_is_word w width.0) in
    record {
      fit = simp (fits-Const, one);
      small = simp nodes-Const (lit≤ tt);
      tells = λ env tuple. (λ h. tt, λ h. simp val-Const (λ e. omega arith));
    }

order-tells : (x y : ℕ) → (one_if (nat_le x y) ≢ 0) ↔ (x ≤ y)
order-tells x y = grind (arith, nat_tests)

tells_membership : TellsMembership all_wrapped_intervals
tells_membership w width = record {
  fit = simp (fits-Node, fits-Field);
  small = simp (nodes-Node, nodes-Field) (lit≤ tt);
  tells = λ env tuple.
      by_three (λ env. (val w wrapped_member_term env ≢ 0) ↔ IsOnTheWay w (take 2 env) (slice_index env 2))
      (λ x y c. simp (val-binary, val-Field) (order-tells (steps w x c) (steps w x y)))
      env tuple.counted;
}

has_start : HasStart all_wrapped_intervals
has_start w width a h = starts w a (h.tuple.words 0)

has_points : HasPoints all_wrapped_intervals
has_points w c h = refl

keeps_start : KeepsStart all_wrapped_intervals
keeps_start w width a b ha hb = (join-IsAbove w (one_is_word w width.0) a b ha.tuple hb.tuple).start

walks_members : WalksMembers all_wrapped_intervals
walks_members w width a h c below = let among = Contains-walk w a c h.tuple below in (among.1, among.0)

has_parts : HasParts all_wrapped_intervals
has_parts w width a h c e hc he in_c in_e order =
    part-IsPart all_wrapped_intervals refl walks_members w width a h c e hc he order tt

-- all laws of a domain hold
pub wrapped_laws : KeepsLaws all_wrapped_intervals
wrapped_laws = record {
  has_fields = lit≤ tt;
  few_fields = lit≤ tt;
  has_members = has_members;
  has_top = has_top;
  holds_words = holds_words;
  joins_above = joins_above;
  descends = descends;
  tidies = tidies;
  tells_validity = tells_validity;
  tells_membership = tells_membership;
}

-- and those of a domain whose values are walks
pub wrapped_walks : IsAnchored all_wrapped_intervals
wrapped_walks = record {
  has_two_fields = refl;
  has_start = has_start;
  has_points = has_points;
  keeps_start = keeps_start;
  walks_members = walks_members;
  has_parts = has_parts;
}
