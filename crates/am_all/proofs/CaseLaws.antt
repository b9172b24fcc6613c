-- Words as members of values, and outcomes, as loops find them.
use Rattle.std.proofs.Common.{◌≡◌, ℕ, ◌+◌, ◌<◌, ◌⊎◌, inl, inr, ◌↔◌, List, [], ◌∷◌, ◌++◌, length, map, take, get_or}
use Rattle.std.proofs.Common.{sym, ap, ◌∙◌, subst, append_assoc, arith}
use Rattle.std.specs.Prelude.{Contains}
use Rattle.std.specs.List.{Any, concat}
use Rattle.std.proofs.lemmas.Bool.{cases_eq}
use Rattle.std.proofs.lemmas.List.{append-nil, get_or-map, length-map, map_push, take_more}
use Rattle.std.proofs.lemmas.List.Elements.{All-push, Contains-append_left, Contains-push, Contains-push_cases}
use Rattle.am_tree.proofs.Laws.{zip-at, zip-lengths}
use Rattle.am_problem.specs.Problem.{IsAssumed, Problem}
use Rattle.am_all.specs.declared.cases.Outcome.{Outcome}
use Rattle.am_all.specs.declared.values.Value.{Value}
use Rattle.am_all.specs.inside.Cases.{AreIn, AreOutcomesAt, IsOutcome}
use Rattle.am_all.specs.inside.Sets.{Has}
use Rattle.am_all.proofs.Lists.{any-here, any-left, any-more, any-right, zip-more}

value-at : {X : Type 0} (view : X → Value) (values : List X) (i : ℕ) (v : X) → i < length values →
    v ≡ get_or values i v → get_or (map view values) i (view v) ≡ view v
value-at view values i v l is = get_or-map view values i v (view v) l ∙ ap view (sym is)

-- one word more is a member
pub in-more : {X : Type 0} (view : X → Value) (values : List X) (words : List ℕ) (i : ℕ) (v : X) →
    length values ≡ length words → i < length values →
    v ≡ get_or values i v → Has (view v).members (get_or words i 0) → AreIn (take i (map view values)) (take i words) →
    AreIn (take (i + 1) (map view values)) (take (i + 1) words)
in-more view values words i v same l is has so_far =
    zip-more (λ (u : Value) c. Has u.members c) (map view values) words i (view v) 0 (simp length-map l)
    (omega (arith, l, same))
    (subst (λ (u : Value). Has u.members (get_or words i 0)) (sym (value-at view values i v l is)) has) so_far

-- a word isn't one
pub not_in-at : {X : Type 0} (view : X → Value) (values : List X) (words : List ℕ) (i : ℕ) (v : X) → i < length values →
    v ≡ get_or values i v → ¬ Has (view v).members (get_or words i 0) → ¬ AreIn (map view values) words
not_in-at view values words i v l is none all =
    none (subst (λ (u : Value). Has u.members (get_or words i 0)) (value-at view values i v l is)
    (zip-at (λ (u : Value) c. Has u.members c) (map view values) words i (view v) 0 (simp length-map l) all))

-- there are as many words as values
pub in-lengths : {X : Type 0} (view : X → Value) (values : List X) (words : List ℕ) → AreIn (map view values) words →
    length values ≡ length words
in-lengths view values words all =
    sym (length-map values view) ∙ zip-lengths (λ (u : Value) c. Has u.members c) (map view values) words all

-- the words up to a word and one more
pub words-more : (words : List ℕ) (k : ℕ) → ((c : ℕ) → Contains words c ↔ (c < k)) → (c : ℕ) →
    Contains (words ++ k ∷ []) c ↔ (c < k + 1)
words-more words k has c = (
  λ h. elim (Contains-push_cases words k c h) [ inl old ↦ omega (arith, (has c).0 old) | inr e ↦ omega (arith, e) ],
  λ l. elim (cases_eq c k) [
    | inl e ↦ subst (Contains (words ++ k ∷ [])) (sym e) (Contains-push words k)
    | inr ne ↦ Contains-append_left words (k ∷ []) c ((has c).1 (omega (arith, l)))
  ],
)

-- the outcomes up to a place and one more
module _ (In : Outcome → Type 0) (outcomes : List Outcome) (i : ℕ) (o : Outcome) (l : i < length outcomes)
    (is : o ≡ get_or outcomes i o) where
  -- one whose words are in the values adds its image
  pub image-more : (H H' : ℕ → Type 0) → In o → ((c : ℕ) → H' c ↔ ((c ≡ o.image) ⊎ H c)) →
      ((c : ℕ) → H c ↔ Any (λ o. In o × (c ≡ o.image)) (take i outcomes)) → (c : ℕ) → H' c ↔
      Any (λ o. In o × (c ≡ o.image)) (take (i + 1) outcomes)
  image-more H H' here grown so_far c =
      let more = any-more (λ o. In o × (c ≡ o.image)) outcomes i o l is in (
        λ h. more.1 (elim ((grown c).0 h) [ inl e ↦ inr (here, e) | inr old ↦ inl ((so_far c).0 old) ]),
        λ h. (grown c).1 (elim (more.0 h) [ inl old ↦ inr ((so_far c).1 old) | inr new ↦ inl new.1 ]),
      )

  -- one whose words are not adds none
  pub image-same : (H : ℕ → Type 0) → ¬ In o →
      ((c : ℕ) → H c ↔ Any (λ o. In o × (c ≡ o.image)) (take i outcomes)) → (c : ℕ) → H c ↔
      Any (λ o. In o × (c ≡ o.image)) (take (i + 1) outcomes)
  image-same H none so_far c =
      let more = any-more (λ o. In o × (c ≡ o.image)) outcomes i o l is in (
        λ h. more.1 (inl ((so_far c).0 h)),
        λ h. elim (more.0 h) [ inl old ↦ (so_far c).1 old | inr new ↦ absurd (none new.0) ],
      )

concat-push : (rows : List (List ℕ)) (row : List ℕ) → concat (rows ++ row ∷ []) ≡ concat rows ++ row
concat-push [] row = append-nil row
concat-push (r ∷ rows) row = ap (λ ys. r ++ ys) (concat-push rows row) ∙ sym (append_assoc r (concat rows) row)

-- the fields of one value more
pub joined-more : {X : Type 0} (fields : X → List ℕ) (values : List X) (i : ℕ) (v : X) (so_far next : List ℕ) →
    i < length values → v ≡ get_or values i v →
    so_far ≡ concat (map fields (take i values)) → next ≡ so_far ++ fields v →
    next ≡ concat (map fields (take (i + 1) values))
joined-more fields values i v so_far next l is h e =
    let more : map fields (take (i + 1) values) ≡ map fields (take i values) ++ fields v ∷ [] =
    ap (map fields) (take_more values i v l ∙ ap (λ u. take i values ++ u ∷ []) (sym is)) ∙ map_push fields
    (take i values) v in
    e ∙ ap (λ ys. ys ++ fields v) h ∙ sym (ap concat more ∙ concat-push (map fields (take i values)) (fields v))

-- the outcomes at rows of words
module _ (p : Problem) (rows : List (List ℕ)) (outcomes : List Outcome) (words : List ℕ)
    (found : AreOutcomesAt p rows outcomes) where
  -- words at which the operation is used add their outcome
  pub outcomes-used : (o : Outcome) → IsOutcome p o → o.words ≡ words →
      AreOutcomesAt p (rows ++ words ∷ []) (outcomes ++ o ∷ [])
  outcomes-used o is e = record {
    each = All-push (IsOutcome p) outcomes o found.each is;
    all = λ ws h assumed. elim (Contains-push_cases rows words ws h) [
      | inl old ↦ any-left (λ o. o.words ≡ ws) outcomes (o ∷ []) (found.all ws old assumed)
      | inr new ↦ any-right (λ o. o.words ≡ ws) outcomes (o ∷ []) (any-here (λ o. o.words ≡ ws) o [] (e ∙ new))
    ];
  }

  -- other words add none
  pub outcomes-unused : ¬ IsAssumed p.width p.assume words → AreOutcomesAt p (rows ++ words ∷ []) outcomes
  outcomes-unused none = record {
    each = found.each;
    all = λ ws h assumed. elim (Contains-push_cases rows words ws h) [
      | inl old ↦ found.all ws old assumed
      | inr new ↦ absurd (none (subst (IsAssumed p.width p.assume) (sym new) assumed))
    ];
  }
