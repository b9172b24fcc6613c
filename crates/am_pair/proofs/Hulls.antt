-- The hull of the common words of two values, word by word of the walk.
use Rattle.std.proofs.Common.{◌≡◌, ℕ, suc, ◌+◌, ◌-◌, ◌%◌, ◌^◌, ◌<◌, ◌≤◌, ◌↔◌, Bool, true, false, cond, IsTrue, List, []}
use Rattle.std.proofs.Common.{◌∷◌, ◌++◌, length, take, slice_index, get_or, refl, sym, ap, ◌∙◌, subst, arith}
use Rattle.std.proofs.Common.{append-nil, MatchOption}
use Rattle.std.specs.Prelude.{All, filter}
use Rattle.std.specs.Option.{ForSome}
use Rattle.std.specs.declared.option.Option.{Option}
use Rattle.std.specs.declared.option.Option.TheVariants.{Some}
use Rattle.std.proofs.Math.Nat.{mod-add-mod, mod-eq_of_lt, mod-lt}
use Rattle.std.proofs.lemmas.Nat.{pow_pos}
use Rattle.std.proofs.lemmas.List.{take_all}
use Rattle.std.proofs.lemmas.List.Elements.{All-filter, All-take, filter_more}
use Rattle.std.proofs.lemmas.List.Sums.{fold-append}
use Rattle.am_bv.specs.Words.{IsWidth}
use Rattle.am_domain.specs.Abstraction.{Abstraction}
use Rattle.am_domain.specs.Tuple.{IsTuple}
use Rattle.am_domain.specs.Meaning.{IsAbstract}
use Rattle.am_domain.specs.Walk.{steps, walk}
use Rattle.am_domain.specs.Laws.{KeepsLaws, is_member}
use Rattle.am_domain.proofs.Laws.{is_member-tells, length-upwards, get_or-upwards}
use Rattle.am_pair.specs.Pairs.{common, last_of, join_of_words, hull_of_words}
use Rattle.am_pair.specs.inside.Hulls.{IsHull, hull_with}
use Rattle.am_pair.specs.lemmas.Parts.{ArePaired, of_first}
use Rattle.am_pair.specs.lemmas.Walks.{All-walk}
use Rattle.am_pair.specs.lemmas.Commons.{join-has}

-- what a raw tuple is tidied to is a value
pub tidied-IsAbstract : {d : Abstraction} → KeepsLaws d → (w : ℕ) → IsWidth w →
    (raw : List ℕ) → IsTuple w d.meaning.fields raw → (a : List ℕ) → d.tidy w raw ≡ Some a → IsAbstract d.meaning w a
tidied-IsAbstract {d} laws w width raw tuple a e =
    (subst (λ o. MatchOption o ((c : ℕ) → c < 2 ^ w → ¬ d.meaning.Member w raw c)
    (λ a. IsAbstract d.meaning w a × ((c : ℕ) → c < 2 ^ w → d.meaning.Member w raw c → d.meaning.Member w a c))) e
    (laws.tidies w width raw tuple)).0

last-append : (d : ℕ) (words : List ℕ) (c : ℕ) → last_of d (words ++ c ∷ []) ≡ c
last-append d [] c = refl
last-append d (e ∷ words) c = last-append e words c

-- one more word at the end of some words
hull-append : (b : Abstraction) (w : ℕ) (words : List ℕ) (c : ℕ) →
    hull_of_words b w (words ++ c ∷ []) ≡ Some (hull_with b w (hull_of_words b w words) c)
hull-append b w [] c = refl
hull-append b w (d ∷ words) c =
    ap (λ l. Some (d ∷ l ∷ join_of_words b w d (words ++ c ∷ []))) (last-append d words c)
    ∙ ap (λ v. Some (d ∷ c ∷ v)) (fold-append (λ v e. b.join w v (b.of_word w e)) (b.of_word w d) words (c ∷ []))

-- two tests of one fact
same_test : (s t : Bool) (P : Type 0) → IsTrue s ↔ P → IsTrue t ↔ P → s ≡ t
same_test true true P one other = refl
same_test true false P one other = sym (other.1 (one.0 refl))
same_test false true P one other = one.1 (other.0 refl)
same_test false false P one other = refl

-- the difference of the ends of a walk, in the words that the code has of them
pub steps-span : (w : ℕ) (x : List ℕ) (first last span : ℕ) → first ≡ slice_index x 0 → last ≡ slice_index x 1 →
    span ≡ (last + (2 ^ w - first)) % 2 ^ w → span ≡ steps w (slice_index x 0) (slice_index x 1)
steps-span w x first last span hf hl e =
    e ∙ ap (λ d. (d + (2 ^ w - first)) % 2 ^ w) hl ∙ ap (λ c. (slice_index x 1 + (2 ^ w - c)) % 2 ^ w) hf

-- the first word of the walk
pub first-word : (w : ℕ) (x : List ℕ) (c : ℕ) → c ≡ slice_index x 0 → slice_index x 0 < 2 ^ w →
    c ≡ (slice_index x 0 + 0) % 2 ^ w
first-word w x c e below =
    let start : slice_index x 0 + 0 ≡ slice_index x 0 = omega arith in
    e ∙ sym (ap (λ n. n % 2 ^ w) start ∙ mod-eq_of_lt below)

-- what is known of a domain that hulls are taken in, a walk and a tuple of the domain
pub record AreHulled (b : Abstraction) (w : ℕ) (x y : List ℕ) : Type 0 where
  pub laws : KeepsLaws b
  pub width : IsWidth w
  pub walk : IsTuple w 2 x
  pub tuple : IsTuple w b.meaning.fields y

-- the same of values of the two domains of a pair
pub are-hulled : {a b : Abstraction} → ArePaired a b → (w : ℕ) → IsWidth w → (x y : List ℕ) →
    IsAbstract a.meaning w x → IsAbstract b.meaning w y → AreHulled b w x y
are-hulled laws w width x y hx hy = record {
  laws = laws.second;
  width = width;
  walk = of_first laws w x hx.tuple;
  tuple = hy.tuple;
}

module _ {b : Abstraction} {w : ℕ} {x y : List ℕ} (h : AreHulled b w x y) where
  abbrev test : ℕ → Bool
  test = is_member w (b.member_term w) y

  -- how many words the walk has
  abbrev count : ℕ
  count = suc (steps w (slice_index x 0) (slice_index x 1))

  -- the hull of the common words among the first of the walk
  abbrev so_far : ℕ → Option (List ℕ)
  so_far i = hull_of_words b w (filter test (take i (walk w x)))

  -- what is a hull so far ends in a value
  known : (words : List ℕ) → All (λ d. d < 2 ^ w) words → ForSome (hull_of_words b w words) (IsHull b.meaning w)
  known [] below p e = cc
  known (c ∷ words) below p e =
      let same : c ∷ last_of c words ∷ join_of_words b w c words ≡ p = cc in
      subst (IsHull b.meaning w) same
      (record { ends = omega arith; value = (join-has h.laws w h.width c words below).value })

  -- a hull so far ends in a value of the second domain
  pub hull-known : (i : ℕ) (hull : Option (List ℕ)) → hull ≡ so_far i → ForSome hull (IsHull b.meaning w)
  hull-known i hull e =
      subst (λ o. ForSome o (IsHull b.meaning w)) (sym e)
      (known _
      (All-filter test (λ d. d < 2 ^ w) (take i (walk w x))
      (All-take (λ d. d < 2 ^ w) i (walk w x) (All-walk w x h.walk))))

  -- the word after one of the walk
  pub next-word : (i c : ℕ) → c ≡ (slice_index x 0 + i) % 2 ^ w →
      (c + (2 ^ w - (2 ^ w - 1))) % 2 ^ w ≡ (slice_index x 0 + (i + 1)) % 2 ^ w
  next-word i c e =
      let one : c + (2 ^ w - (2 ^ w - 1)) ≡ c + 1 = omega (arith, pow_pos w) in
      let more : slice_index x 0 + i + 1 ≡ slice_index x 0 + (i + 1) = omega arith in
      ap (λ n. n % 2 ^ w) one ∙ ap (λ d. (d + 1) % 2 ^ w) e ∙ mod-add-mod (slice_index x 0 + i) (2 ^ w) 1
      ∙ ap (λ n. n % 2 ^ w) more

  one_more : (i c : ℕ) (t : Bool) → i < count → c ≡ (slice_index x 0 + i) % 2 ^ w → IsTrue t ↔ b.meaning.Member w y c →
      filter test (take (i + 1) (walk w x)) ≡ filter test (take i (walk w x)) ++ cond t (c ∷ []) []
  one_more i c t most at says =
      let reach : i < length (walk w x) = omega (arith, length-upwards w count (slice_index x 0), most) in
      let here : get_or (walk w x) i 0 ≡ c =
      get_or-upwards w count (slice_index x 0) i 0 (h.walk.words 0) most ∙ sym at in
      let below : c < 2 ^ w = rw at (mod-lt _ (pow_pos w)) in
      let same : test c ≡ t = same_test (test c) t (b.meaning.Member w y c)
      (is_member-tells b h.laws.tells_membership w h.width y h.tuple c below) says in
      filter_more test (walk w x) i 0 reach
      ∙ ap (λ d. filter test (take i (walk w x)) ++ cond (test d) (d ∷ []) []) here
      ∙ ap (λ s. filter test (take i (walk w x)) ++ cond s (c ∷ []) []) same

  -- a common word joins the hull
  pub hull-taken : (i c : ℕ) (t : Bool) (hull : Option (List ℕ)) (p : List ℕ) → i < count →
      c ≡ (slice_index x 0 + i) % 2 ^ w →
      IsTrue t ↔ b.meaning.Member w y c → t ≡ true → hull ≡ so_far i → p ≡ hull_with b w hull c →
      Some p ≡ so_far (i + 1)
  hull-taken i c t hull p most at says holds before e =
      ap (λ p. Some p) e
      ∙ ap (λ o. Some (hull_with b w o c)) before
      ∙ sym (hull-append b w (filter test (take i (walk w x))) c)
      ∙ ap (λ s. hull_of_words b w (filter test (take i (walk w x)) ++ cond s (c ∷ []) [])) (sym holds)
      ∙ ap (λ words. hull_of_words b w words) (sym (one_more i c t most at says))

  -- a word that isn't common leaves the hull as it was
  pub hull-passed : (i c : ℕ) (t : Bool) (hull : Option (List ℕ)) → i < count → c ≡ (slice_index x 0 + i) % 2 ^ w →
      IsTrue t ↔ b.meaning.Member w y c → t ≡ false → hull ≡ so_far i → hull ≡ so_far (i + 1)
  hull-passed i c t hull most at says fails before =
      before
      ∙ ap (λ words. hull_of_words b w words) (sym (append-nil (filter test (take i (walk w x)))))
      ∙ ap (λ s. hull_of_words b w (filter test (take i (walk w x)) ++ cond s (c ∷ []) [])) (sym fails)
      ∙ ap (λ words. hull_of_words b w words) (sym (one_more i c t most at says))

  -- after the whole walk
  pub hull-whole : (i : ℕ) → count ≤ i → so_far i ≡ hull_of_words b w (common b w x y)
  hull-whole i most =
      ap (λ words. hull_of_words b w (filter test words))
      (take_all i (walk w x) (omega (arith, length-upwards w count (slice_index x 0), most)))
