-- Wrapped intervals that lie in others.
use Rattle.std.proofs.Common.{◌≡◌, ℕ, ◌+◌, ◌-◌, ◌%◌, ◌^◌, ◌<◌, ◌≤◌, ◌⊎◌, inl, inr, ◌↔◌, Bool, true, false, ◌||◌, nat_lt}
use Rattle.std.proofs.Common.{nat_le, ◌==◌, IsTrue, List, if◌then◌else◌, refl, sym, ◌∙◌, arith}
use Rattle.std.proofs.Math.Nat.{mod-lt}
use Rattle.std.proofs.lemmas.Nat.{pow_pos}
use Rattle.std.proofs.lemmas.Bool.{cases_lt, and_parts}
use Rattle.std.proofs.lemmas.Bool.Decides.{nat_tests}
use Rattle.am_domain.specs.Tuple.{IsTuple}
use Rattle.am_domain.specs.Walk.{steps}
use Rattle.am_domain.proofs.Laws.{pair-IsTuple, steps-word, steps-cases, steps-on, steps-self, steps-upwards}
use Rattle.am_wrap.specs.WrappedIntervals.{start, end, span, IsOnTheWay, LiesIn, lies_in, both_lie_in, across}
use Rattle.am_wrap.specs.WrappedIntervals.{round_from, narrower, bridge, wrapped_join}

-- two words are a tuple
pub ruleset tuples = (pair-IsTuple)

-- the first lies in the second, as a fact
abbrev pub Lies : ℕ → List ℕ → List ℕ → Type 0
Lies w a b = (span w b ≡ 2 ^ w - 1) ⊎ (steps w (start b) (start a) + span w a ≤ span w b)

either-tells : (s m t : ℕ) → IsTrue ((s == m) || nat_le t s) ↔ ((s ≡ m) ⊎ (t ≤ s))
either-tells s m t = grind (arith, nat_tests)

pub lies_in-tells : (w : ℕ) (a b : List ℕ) → IsTrue (lies_in w a b) ↔ Lies w a b
lies_in-tells w a b = either-tells (span w b) (2 ^ w - 1) (steps w (start b) (start a) + span w a)

lies : (w : ℕ) (a b : List ℕ) → lies_in w a b ≡ true → Lies w a b
lies w a b e = (lies_in-tells w a b).0 e

outside : (w : ℕ) (a b : List ℕ) → lies_in w a b ≡ false → ¬ Lies w a b
outside w a b e h =
    let yes : lies_in w a b ≡ true = (lies_in-tells w a b).1 h in let no : true ≡ false = sym yes ∙ e in cc

-- each interval lies in itself, and in all words
pub Lies-refl : (w : ℕ) (a : List ℕ) → IsTuple w 2 a → Lies w a a
Lies-refl w a h = inr (omega (arith, steps-self w (start a) (h.words 0)))

-- a member of an interval is one of each in which it lies
pub Lies-members : (w : ℕ) (a b : List ℕ) → IsTuple w 2 a → IsTuple w 2 b → Lies w a b → (c : ℕ) → c < 2 ^ w →
    IsOnTheWay w a c →
    IsOnTheWay w b c
Lies-members w a b ha hb lie c below member =
    elim lie [
      | inl all ↦ omega (arith, all, steps-word w (start b) c)
      | inr within ↦ elim (steps-on w (start b) (start a) c (hb.words 0) (ha.words 0) below) [
        | inl on ↦ omega (arith, within, member, on.1)
        | inr round ↦ omega (arith, within, member, round.1, steps-word w (start a) c)
      ]
    ]

-- an interval whose members are all members of another lies in it: else the word after the end of the other is one too
members-Lie : (w : ℕ) (a b : List ℕ) → IsTuple w 2 a → IsTuple w 2 b → LiesIn w a b → Lies w a b
members-Lie w a b ha hb within =
    elim (cases_lt (span w b) (steps w (start b) (start a) + span w a)) [
      | inr most ↦ inr most
      | inl more ↦ elim (cases_lt (span w b + 1) (2 ^ w)) [
        | inr all ↦ inl (omega (arith, all, steps-word w (start b) (end b)))
        | inl less ↦ absurd (passes more less)
      ]
    ]
  where
    next : ℕ
    next = (start b + (span w b + 1)) % 2 ^ w

    passes : span w b < steps w (start b) (start a) + span w a → span w b + 1 < 2 ^ w → ⊥
    passes more less =
        let word : next < 2 ^ w = mod-lt _ (pow_pos w) in
        let reach = steps-upwards w (start b) (span w b + 1) (hb.words 0) less in
        let starts = within (start a) (ha.words 0) (omega (arith, steps-self w (start a) (ha.words 0))) in
        elim (steps-on w (start b) (start a) next (hb.words 0) (ha.words 0) word) [
          | inl on ↦ let found = within next word (omega (arith, on.1, reach, more)) in omega (arith, found, reach)
          | inr round ↦ omega (arith, round.0, reach, starts)
        ]

-- the rule tells whether each member is one of the other's
pub lies_in-members : (w : ℕ) (a b : List ℕ) → IsTuple w 2 a → IsTuple w 2 b → IsTrue (lies_in w a b) ↔ LiesIn w a b
lies_in-members w a b ha hb =
    let tells = lies_in-tells w a b in
    (λ h. Lies-members w a b ha hb (tells.0 h), λ within. tells.1 (members-Lie w a b ha hb within))

-- an interval in which two lie is wider than the first where the second doesn't lie in that
pub wider : (w : ℕ) (a b c : List ℕ) → IsTuple w 2 a → IsTuple w 2 b → IsTuple w 2 c → Lies w a c → Lies w b c →
    ¬ Lies w b a →
    span w a < span w c
wider w a b c ha hb hc first second apart =
    elim (cases_lt (span w a) (span w c)) [
      | inl less ↦ less
      | inr most ↦ absurd (apart (elim first [
        | inl all ↦ inl (omega (arith, all, most, steps-word w (start a) (end a)))
        | inr within ↦ elim second [
          | inl all ↦ inl (omega (arith, all, most, steps-word w (start a) (end a)))
          | inr inside ↦ inr (elim (steps-on w (start c) (start a) (start b) (hc.words 0) (ha.words 0) (hb.words 0)) [
            | inl on ↦ omega (arith, within, inside, most, on.1)
            | inr round ↦ absurd (omega (arith, within, most, round.0))
          ])
        ]
      ]))
    ]

-- what the rules of a join lead to: an interval in which both lie, which is the first or has a word of the second that
-- the first lacks
pub record IsAbove (w : ℕ) (a b joined : List ℕ) : Type 0 where
  pub tuple : IsTuple w 2 joined
  pub start : (start joined ≡ start a) ⊎ (start joined ≡ start b)
  pub first : Lies w a joined
  pub second : Lies w b joined
  pub kept : (joined ≡ a) ⊎ (¬ Lies w b a)

module _ (w : ℕ) (one : 1 < 2 ^ w) (a b : List ℕ) (ha : IsTuple w 2 a) (hb : IsTuple w 2 b) (apart : ¬ Lies w b a) where
  -- an interval across both in which both lie
  candidate : (c : List ℕ) → IsTuple w 2 c → (start c ≡ start a) ⊎ (start c ≡ start b) → both_lie_in w a b c ≡ true →
      IsAbove w a b c
  candidate c tuple starts e =
      let parts = and_parts _ _ e in
      record {
        tuple = tuple;
        start = starts;
        first = lies w a c parts.0;
        second = lies w b c parts.1;
        kept = inr apart;
      }

  there-IsAbove : both_lie_in w a b (across a b) ≡ true → IsAbove w a b (across a b)
  there-IsAbove = candidate (across a b) (pair-IsTuple w _ _ (ha.words 0) (hb.words 1)) (inl refl)

  back-IsAbove : both_lie_in w a b (across b a) ≡ true → IsAbove w a b (across b a)
  back-IsAbove = candidate (across b a) (pair-IsTuple w _ _ (hb.words 0) (ha.words 1)) (inr refl)

  round-span : span w (round_from w (start a)) ≡ 2 ^ w - 1
  round-span = elim (steps-cases w 1 (start a) one (ha.words 0)) [
    | inl before ↦ elim (steps-cases w (start a) (steps w 1 (start a)) (ha.words 0) (steps-word w 1 (start a))) [
      | inl up ↦ absurd (omega (arith, before.1, up.0))
      | inr round ↦ omega (arith, before.1, round.1)
    ]
    | inr last ↦ elim (steps-cases w (start a) (steps w 1 (start a)) (ha.words 0) (steps-word w 1 (start a))) [
      | inl up ↦ omega (arith, last.0, last.1, up.1)
      | inr round ↦ absurd (omega (arith, last.0, round.0))
    ]
  ]

  round-IsAbove : IsAbove w a b (round_from w (start a))
  round-IsAbove = record {
    tuple = pair-IsTuple w _ _ (ha.words 0) (mod-lt _ (pow_pos w));
    start = inl refl;
    first = inl round-span;
    second = inl round-span;
    kept = inr apart;
  }

  narrower-IsAbove : (there back : Bool) → both_lie_in w a b (across a b) ≡ there →
      both_lie_in w a b (across b a) ≡ back →
      IsAbove w a b (narrower w (start a) (across a b) (across b a) there back)
  narrower-IsAbove true true e f = at (nat_lt (span w (across b a)) (span w (across a b)))
    where
      at : (t : Bool) → IsAbove w a b (if t then across b a else across a b)
      at true = back-IsAbove f
      at false = there-IsAbove e
  narrower-IsAbove true false e f = there-IsAbove e
  narrower-IsAbove false true e f = back-IsAbove f
  narrower-IsAbove false false e f = round-IsAbove

-- the join of two wrapped intervals is one that both lie in
pub join-IsAbove : (w : ℕ) → 1 < 2 ^ w → (a b : List ℕ) → IsTuple w 2 a → IsTuple w 2 b →
    IsAbove w a b (wrapped_join w a b)
join-IsAbove w one a b ha hb = at (lies_in w b a) refl (lies_in w a b) refl
  where
    at : (s : Bool) → lies_in w b a ≡ s → (t : Bool) → lies_in w a b ≡ t →
        IsAbove w a b (if s then a else if t then b else bridge w a b)
    at true e t f =
        record { tuple = ha; start = inl refl; first = Lies-refl w a ha; second = lies w b a e; kept = inl refl }
    at false e true f = record {
      tuple = hb;
      start = inr refl;
      first = lies w a b f;
      second = Lies-refl w b hb;
      kept = inr (outside w b a e);
    }
    at false e false f = narrower-IsAbove w one a b ha hb (outside w b a e) _ _ refl refl
