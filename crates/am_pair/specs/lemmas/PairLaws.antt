-- The laws of a product of two domains, from those of the parts.
use Rattle.std.proofs.Common.{◌≡◌, ◌≢◌, ℕ, ◌*◌, ◌^◌, ◌<◌, ◌≤◌, ◌⊎◌, inl, inr, Bool, true, false, List, [], ◌∷◌, ◌++◌}
use Rattle.std.proofs.Common.{slice_index, refl, sym, ap, ◌∙◌, subst, arith, MatchOption}
use Rattle.std.specs.Prelude.{All, AllPairs, Contains}
use Rattle.std.specs.Str.{bytes_eq}
use Rattle.std.specs.declared.option.Option.{Option}
use Rattle.std.specs.declared.option.Option.TheVariants.{Some, None}
use Rattle.std.proofs.lemmas.Slice.Eq.{bytes_eq-Decides}
use Rattle.std.proofs.lemmas.List.Elements.{All-contains, All-filter, Contains-get_or}
use Rattle.std.proofs.lemmas.List.Kept.{AllPairs-filter}
use Rattle.am_bv.specs.Words.{IsWidth}
use Rattle.am_domain.specs.Tuple.{IsTuple}
use Rattle.am_domain.specs.Abstraction.{Abstraction}
use Rattle.am_domain.specs.Meaning.{Meaning, IsAbstract}
use Rattle.am_domain.specs.Walk.{steps, walk}
use Rattle.am_domain.specs.Laws.{HasMembers, HasTop, HoldsWords, JoinsAbove, Descends, Tidies, KeepsLaws, is_member}
use Rattle.am_domain.specs.AnchoredLaws.{IsPart}
use Rattle.am_domain.proofs.Laws.{pair-IsTuple}
use Rattle.am_pair.specs.Pairs.{first, second, meaning_product, common, last_of, join_of_words, hull_of_words}
use Rattle.am_pair.specs.Pairs.{tidy_parts}
use Rattle.am_pair.specs.Pairs.{domain_product}
use Rattle.am_pair.specs.lemmas.Parts.{ArePaired, parts, values, value, member, made, of_first, as_first}
use Rattle.am_pair.specs.lemmas.Walks.{All-walk, AllPairs-walk}
use Rattle.am_pair.specs.lemmas.Commons.{common-members, HasMemberWords, join-has, last-most, first-least}
use Rattle.am_pair.specs.lemmas.Commons.{last-contains}
use Rattle.am_pair.specs.lemmas.Terms.{valid-IsIndicator, member-IsIndicator}

same_or_not : (xs ys : List ℕ) → (xs ≡ ys) ⊎ (xs ≢ ys)
same_or_not xs ys = at (bytes_eq xs ys) refl
  where
    at : (t : Bool) → bytes_eq xs ys ≡ t → (xs ≡ ys) ⊎ (xs ≢ ys)
    at true e = inl ((bytes_eq-Decides xs ys).0 e)
    at false e = inr (λ same. let yes : true ≡ false = sym ((bytes_eq-Decides xs ys).1 same) ∙ e in cc)

-- a part's rank falls where the join changes the part, and stays where it doesn't
rank_or_less : {d : Abstraction} → KeepsLaws d →
    (w : ℕ) → IsWidth w → (x y : List ℕ) → IsAbstract d.meaning w x → IsAbstract d.meaning w y →
    ((d.join w x y ≡ x) × (d.rank w (d.join w x y) ≡ d.rank w x)) ⊎ (d.rank w (d.join w x y) < d.rank w x)
rank_or_less {d} laws w width x y hx hy =
    elim (same_or_not (d.join w x y) x) [
      | inl same ↦ inl (same, ap (d.rank w) same)
      | inr changed ↦ inr (laws.descends.falls w width x y hx hy changed)
    ]

-- The laws of the product, each from the same law of both parts and from what it takes besides.
module _ {a b : Abstraction} (laws : ArePaired a b) where
  abbrev m : Meaning
  m = a.meaning

  abbrev n : Meaning
  n = b.meaning

  abbrev both : Meaning
  both = meaning_product a.meaning b.meaning

  has_members : HasMembers (domain_product a b)
  has_members w width p h =
      let v = values laws w p h in (
        h.tuple.words 0,
        (subst (m.Member w (first p)) v.known.start (laws.walks.has_start w width (first p) v.front), h.valid.2),
      )

  has_top : HasTop (domain_product a b)
  has_top w width =
      let x = laws.first.has_top w width in
      let y = laws.second.has_top w width in (
        value laws w (a.top w) (b.top w) x.0 y.0 (y.1 (slice_index (a.top w) 0) (x.0.tuple.words 0)),
        λ c below. member laws w (a.top w) (b.top w) c (of_first laws w (a.top w) x.0.tuple) y.0.tuple (x.1 c below)
            (y.1 c below),
      )

  holds_words : HoldsWords (domain_product a b)
  holds_words w width c below =
      let x = laws.first.holds_words w width c below in
      let y = laws.second.holds_words w width c below in (
        value laws w (a.of_word w c) (b.of_word w c) x.0 y.0
            (subst (λ z. n.Member w (b.of_word w c) (slice_index z 0)) (sym (laws.walks.has_points w c below)) y.1),
        member laws w (a.of_word w c) (b.of_word w c) c (of_first laws w (a.of_word w c) x.0.tuple) y.0.tuple x.1 y.1,
      )

  joins_above : JoinsAbove (domain_product a b)
  joins_above w width p q hp hq =
      let vp = values laws w p hp in
      let vq = values laws w q hq in
      let x = laws.first.joins_above w width (first p) (first q) vp.front vq.front in
      let y = laws.second.joins_above w width (second p) (second q) vp.back vq.back in
      let tuple = of_first laws w (a.join w (first p) (first q)) x.value.tuple in
      record {
        value =
            value laws w _ _ x.value y.value
            (elim (laws.walks.keeps_start w width (first p) (first q) vp.front vq.front) [
              | inl e ↦
                  subst (n.Member w (b.join w (second p) (second q))) (sym e)
                  (y.first (slice_index (first p) 0) (vp.known.front.words 0) vp.meets)
              | inr e ↦
                  subst (n.Member w (b.join w (second p) (second q))) (sym e)
                  (y.second (slice_index (first q) 0) (vq.known.front.words 0) vq.meets)
            ]);
        first = λ c below h. member laws w _ _ c tuple y.value.tuple (x.first c below h.0) (y.first c below h.1);
        second = λ c below h. member laws w _ _ c tuple y.value.tuple (x.second c below h.0) (y.second c below h.1);
      }

  falls : (w : ℕ) → IsWidth w → (p q : List ℕ) → IsAbstract both w p → IsAbstract both w q →
      (domain_product a b).join w p q ≢ p → (domain_product a b).rank w ((domain_product a b).join w p q) <
      (domain_product a b).rank w p
  falls w width p q hp hq changed =
      let vp = values laws w p hp in
      let vq = values laws w q hq in
      let x = laws.first.joins_above w width (first p) (first q) vp.front vq.front in
      let y = laws.second.joins_above w width (second p) (second q) vp.back vq.back in
      let known = made w n.fields _ _ (of_first laws w (a.join w (first p) (first q)) x.value.tuple) y.value.tuple in
      let left = ap (a.rank w) known.front in
      let right = ap (b.rank w) known.back in
      elim (rank_or_less laws.first w width (first p) (first q) vp.front vq.front) [
        | inl ex ↦ elim (rank_or_less laws.second w width (second p) (second q) vp.back vq.back) [
          | inl ey ↦
              absurd
              (changed
              (ap (λ z. z ++ b.join w (second p) (second q)) ex.0 ∙ ap (λ z. first p ++ z) ey.0 ∙ vp.known.whole))
          | inr less ↦ omega (arith, left, right, ex.1, less)
        ]
        | inr less ↦ elim (rank_or_less laws.second w width (second p) (second q) vp.back vq.back) [
          | inl ey ↦ omega (arith, left, right, less, ey.1)
          | inr more ↦ omega (arith, left, right, less, more)
        ]
      ]

  descends : Descends (domain_product a b)
  descends = record {
    most = λ w width p h.
        let v = values laws w p h in
        let ma = subst (λ k. a.rank w (first p) ≤ k * 2 ^ w) laws.walks.has_two_fields
        (laws.first.descends.most w width (first p) v.front) in
        omega (arith, ma, laws.second.descends.most w width (second p) v.back);
    falls = falls;
  }

  module _ (w : ℕ) (width : IsWidth w) (raw : List ℕ) where
    -- what a raw pair is tidied to
    abbrev IsTidied : Option (List ℕ) → Type 0
    IsTidied tidied = MatchOption tidied ((c : ℕ) → c < 2 ^ w → ¬ both.Member w raw c)
        (λ p. IsAbstract both w p × ((c : ℕ) → c < 2 ^ w → both.Member w raw c → both.Member w p c))

    -- words that rise along the walk of a value, and have each member of a raw pair
    record AreCommon (x : List ℕ) (words : List ℕ) : Type 0 where
      below : All (λ c. c < 2 ^ w) words
      members : All (λ c. m.Member w x c) words
      rise : AllPairs (λ c d. steps w (slice_index x 0) c < steps w (slice_index x 0) d) words
      has : (c : ℕ) → c < 2 ^ w → both.Member w raw c → Contains words c

    hull : (x : List ℕ) → IsAbstract m w x → (words : List ℕ) → AreCommon x words → IsTidied (hull_of_words b w words)
    hull x hx [] known = λ c below h. absurd (omega (arith, (known.has c below h).1))
    hull x hx (c ∷ words) known = (
      value laws w (c ∷ last ∷ []) (join_of_words b w c words)
          (record { tuple = as_first laws w (c ∷ last ∷ []) ends; valid = part.valid })
          joined.value (joined.all 0 c (omega arith)),
      λ e h in_raw.
          let found = known.has e h in_raw in
          member laws w (c ∷ last ∷ []) (join_of_words b w c words) e ends joined.value.tuple
          ((part.members e h).1 (between e found))
          (All-contains (λ d. n.Member w (join_of_words b w c words) d) (c ∷ words) e joined.all found),
    )
      where
        way : ℕ → ℕ
        way = steps w (slice_index x 0)

        last : ℕ
        last = last_of c words

        hc : c < 2 ^ w
        hc = known.below 0 c (omega arith)

        hl : last < 2 ^ w
        hl = All-contains (λ d. d < 2 ^ w) (c ∷ words) last known.below (last-contains c words)

        ends : IsTuple w 2 (c ∷ last ∷ [])
        ends = pair-IsTuple w c last hc hl

        part : IsPart m w (slice_index x 0) c last
        part = laws.walks.has_parts w width x hx c last hc hl (known.members 0 c (omega arith))
            (All-contains (λ d. m.Member w x d) (c ∷ words) last known.members (last-contains c words))
            (last-most way c words known.rise 0 c (omega arith))

        joined : HasMemberWords n w (join_of_words b w c words) (c ∷ words)
        joined = join-has laws.second w width c words known.below

        between : (e : ℕ) → Contains (c ∷ words) e → (way c ≤ way e) × (way e ≤ way last)
        between e found = (
          All-contains (λ d. way c ≤ way d) (c ∷ words) e (first-least way c words known.rise) found,
          All-contains (λ d. way d ≤ way last) (c ∷ words) e (last-most way c words known.rise) found,
        )

    tidied : (ox oy : Option (List ℕ)) →
        MatchOption ox ((c : ℕ) → c < 2 ^ w → ¬ m.Member w (first raw) c)
        (λ x. IsAbstract m w x × ((c : ℕ) → c < 2 ^ w → m.Member w (first raw) c → m.Member w x c)) →
        MatchOption oy ((c : ℕ) → c < 2 ^ w → ¬ n.Member w (second raw) c)
        (λ y. IsAbstract n w y × ((c : ℕ) → c < 2 ^ w → n.Member w (second raw) c → n.Member w y c)) →
        IsTidied (tidy_parts b w ox oy)
    tidied None oy mx my = λ c below h. mx c below h.0
    tidied (Some x) None mx my = λ c below h. my c below h.1
    tidied (Some x) (Some y) mx my =
        let test = is_member w (b.member_term w) y in
        let start = of_first laws w x mx.0.tuple in
        let words = common b w x y in
        let below = All-filter test (λ c. c < 2 ^ w) (walk w x) (All-walk w x start) in
        let tell = common-members laws.walks laws.second w width x y mx.0 my.0 in
        hull x mx.0 words (record {
          below = below;
          members = λ i d h. ((tell _ (below i d h)).0 (Contains-get_or words i d h)).0;
          rise =
              AllPairs-filter (λ c d. steps w (slice_index x 0) c < steps w (slice_index x 0) d) test (walk w x)
              (AllPairs-walk w x start);
          has = λ c h in_raw. (tell c h).1 (mx.1 c h in_raw.0, my.1 c h in_raw.1);
        })

  tidies : Tidies (domain_product a b)
  tidies w width raw tuple =
      let known = parts w n.fields raw tuple in
      tidied w width raw _ _ (laws.first.tidies w width (first raw) (as_first laws w (first raw) known.front))
      (laws.second.tidies w width (second raw) known.back)

  -- the product of two domains is a domain
  pub product_laws : KeepsLaws (domain_product a b)
  product_laws = record {
    has_fields = omega arith;
    few_fields = omega (arith, laws.few);
    has_members = has_members;
    has_top = has_top;
    holds_words = holds_words;
    joins_above = joins_above;
    descends = descends;
    tidies = tidies;
    tells_validity = λ w width. valid-IsIndicator laws w width;
    tells_membership = λ w width. member-IsIndicator laws w width;
  }
