-- The parts of a pair.
use Rattle.std.proofs.Common.{◌≡◌, ℕ, suc, ◌+◌, ◌≤◌, List, [], ◌∷◌, ◌++◌, length, slice_index, subst, sym, refl, arith}
use Rattle.am_domain.specs.Tuple.{IsTuple}
use Rattle.am_domain.specs.Abstraction.{Abstraction}
use Rattle.am_domain.specs.AnchoredLaws.{IsAnchored}
use Rattle.am_domain.specs.Laws.{KeepsLaws}
use Rattle.am_domain.specs.Meaning.{IsAbstract}
use Rattle.am_domain.proofs.Laws.{by_two, AreWords-nil, AreWords-cons}
use Rattle.am_pair.specs.Pairs.{first, second, meaning_product}

-- a fact at each list of at least two numbers
pub by_more_than_two : (P : List ℕ → Type 0) → ((x y : ℕ) (rest : List ℕ) → P (x ∷ y ∷ rest)) → (p : List ℕ)
    → 2 ≤ length p
    → P p
by_more_than_two P h [] most = absurd (omega arith)
by_more_than_two P h (x ∷ []) most = absurd (omega arith)
by_more_than_two P h (x ∷ y ∷ rest) most = h x y rest

-- what is known of the parts of a tuple of a pair
pub record AreParts (w count : ℕ) (p : List ℕ) : Type 0 where
  pub front : IsTuple w 2 (first p)
  pub back : IsTuple w count (second p)
  pub whole : first p ++ second p ≡ p
  pub start : slice_index (first p) 0 ≡ slice_index p 0

-- the parts of a tuple of a pair
pub parts : (w count : ℕ) (p : List ℕ) → IsTuple w (2 + count) p → AreParts w count p
parts w count p h = by_more_than_two (λ p. IsTuple w (2 + count) p → AreParts w count p)
    (λ x y rest t. record {
      front = record {
        counted = refl;
        words = AreWords-cons w x (y ∷ []) (t.words 0) (AreWords-cons w y [] (t.words 1) (AreWords-nil w));
      };
      back = record { counted = omega (arith, t.counted); words = λ i. t.words (suc (suc i)) };
      whole = refl;
      start = refl;
    })
    p (omega (arith, h.counted)) h

-- what is known of a tuple that is put together from two
pub record HasMade (w count : ℕ) (x y : List ℕ) : Type 0 where
  pub tuple : IsTuple w (2 + count) (x ++ y)
  pub front : first (x ++ y) ≡ x
  pub back : second (x ++ y) ≡ y
  pub start : slice_index (x ++ y) 0 ≡ slice_index x 0

-- a tuple of two parts
pub made : (w count : ℕ) (x y : List ℕ) → IsTuple w 2 x → IsTuple w count y → HasMade w count x y
made w count x y hx hy = by_two (λ x. IsTuple w 2 x → HasMade w count x y)
    (λ c d t. record {
      tuple = record {
        counted = omega (arith, hy.counted);
        words = AreWords-cons w c (d ∷ y) (t.words 0) (AreWords-cons w d y (t.words 1) hy.words);
      };
      front = refl;
      back = refl;
      start = refl;
    })
    x hx.counted hx

-- what is known of the domains of a pair
pub record ArePaired (a b : Abstraction) : Type 0 where
  pub walks : IsAnchored a
  pub first : KeepsLaws a
  pub second : KeepsLaws b
  pub few : b.meaning.fields ≤ 2

-- the same from its parts
pub paired : {a b : Abstraction} → IsAnchored a → KeepsLaws a → KeepsLaws b → b.meaning.fields ≤ 2 → ArePaired a b
paired walks first second few = record { walks = walks; first = first; second = second; few = few }

-- The parts of values of a pair.
module _ {a b : Abstraction} (laws : ArePaired a b) where
  -- two words are a tuple of the first domain
  pub as_first : (w : ℕ) (x : List ℕ) → IsTuple w 2 x → IsTuple w a.meaning.fields x
  as_first w x h = subst (λ n. IsTuple w n x) (sym laws.walks.has_two_fields) h

  -- a tuple of the first domain has two words
  pub of_first : (w : ℕ) (x : List ℕ) → IsTuple w a.meaning.fields x → IsTuple w 2 x
  of_first w x h = subst (λ n. IsTuple w n x) laws.walks.has_two_fields h

  -- what is known of the parts of a value of a pair
  pub record HasValues (w : ℕ) (p : List ℕ) : Type 0 where
    pub known : AreParts w b.meaning.fields p
    pub front : IsAbstract a.meaning w (first p)
    pub back : IsAbstract b.meaning w (second p)
    pub meets : b.meaning.Member w (second p) (slice_index (first p) 0)

  -- the parts of a value of a pair
  pub values : (w : ℕ) (p : List ℕ) → IsAbstract (meaning_product a.meaning b.meaning) w p → HasValues w p
  values w p h =
      let known = parts w b.meaning.fields p h.tuple in
      record {
        known = known;
        front = record { tuple = as_first w (first p) known.front; valid = h.valid.0 };
        back = record { tuple = known.back; valid = h.valid.1 };
        meets = subst (b.meaning.Member w (second p)) (sym known.start) h.valid.2;
      }

  -- values of both that meet are a value of the pair
  pub value : (w : ℕ) (x y : List ℕ) → IsAbstract a.meaning w x → IsAbstract b.meaning w y
      → b.meaning.Member w y (slice_index x 0)
      → IsAbstract (meaning_product a.meaning b.meaning) w (x ++ y)
  value w x y hx hy meets =
      let known = made w b.meaning.fields x y (of_first w x hx.tuple) hy.tuple in
      record {
        tuple = known.tuple;
        valid = (
          subst (a.meaning.Valid w) (sym known.front) hx.valid,
          subst (b.meaning.Valid w) (sym known.back) hy.valid,
          subst (λ z. b.meaning.Member w z (slice_index (x ++ y) 0)) (sym known.back)
              (subst (b.meaning.Member w y) (sym known.start) meets),
        );
      }

  -- the members of what is put together are those of both
  pub member : (w : ℕ) (x y : List ℕ) (c : ℕ) → IsTuple w 2 x → IsTuple w b.meaning.fields y → a.meaning.Member w x c
      → b.meaning.Member w y c
      → (meaning_product a.meaning b.meaning).Member w (x ++ y) c
  member w x y c hx hy in_x in_y =
      let known = made w b.meaning.fields x y hx hy in (
        subst (λ z. a.meaning.Member w z c) (sym known.front) in_x,
        subst (λ z. b.meaning.Member w z c) (sym known.back) in_y,
      )

  -- the first part of a tuple is a tuple of the first domain
  pub front-IsTuple : (w : ℕ) (p x : List ℕ) → x ≡ first p → IsTuple w (2 + b.meaning.fields) p
      → IsTuple w a.meaning.fields x
  front-IsTuple w p x e h =
      subst (IsTuple w a.meaning.fields) (sym e) (as_first w (first p) (parts w b.meaning.fields p h).front)

  -- the second part of a tuple is a tuple of the second domain
  pub back-IsTuple : (w : ℕ) (p y : List ℕ) → y ≡ second p → IsTuple w (2 + b.meaning.fields) p
      → IsTuple w b.meaning.fields y
  back-IsTuple w p y e h = subst (IsTuple w b.meaning.fields) (sym e) (parts w b.meaning.fields p h).back

  -- the first part of a pair's value is a value of the first domain
  pub front-IsAbstract : (w : ℕ) (p x : List ℕ) → x ≡ first p → IsAbstract (meaning_product a.meaning b.meaning) w p
      → IsAbstract a.meaning w x
  front-IsAbstract w p x e h = subst (IsAbstract a.meaning w) (sym e) (values w p h).front

  -- the second part of a pair's value is a value of the second domain
  pub back-IsAbstract : (w : ℕ) (p y : List ℕ) → y ≡ second p → IsAbstract (meaning_product a.meaning b.meaning) w p
      → IsAbstract b.meaning w y
  back-IsAbstract w p y e h = subst (IsAbstract b.meaning w) (sym e) (values w p h).back

  -- at most four words
  pub few_words : (w : ℕ) (x y : List ℕ) → IsTuple w a.meaning.fields x → IsTuple w b.meaning.fields y
      → length x + length y ≤ 4
  few_words w x y hx hy = omega (arith, hx.counted, hy.counted, laws.walks.has_two_fields, laws.few)
