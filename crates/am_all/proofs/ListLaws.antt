-- What holds of the list of all best tuples.
use Rattle.std.proofs.Common.{◌≡◌, ◌⊎◌, inl, inr, List, [], ◌∷◌, refl, sym, subst}
use Rattle.std.specs.Prelude.{All, Contains}
use Rattle.std.specs.List.{Any}
use Rattle.std.proofs.lemmas.List.Elements.{All-cons, All-contains, All-contains_itself, All-head, All-nil, All-weaker}
use Rattle.am_bv.specs.declared.term.Term.{Term}
use Rattle.am_domain.specs.Question.{Betters, IsBest, IsSound, Question}
use Rattle.am_domain.proofs.Laws.{Betters-trans}
use Rattle.am_problem.specs.Problem.{Problem, question_of}
use Rattle.am_tree.specs.declared.tree.Tree.{Tree}
use Rattle.am_tree.specs.Trees.{AreTrees, terms_of}
use Rattle.am_all.specs.AllBest.{GivesBest, KeepsWhere, drops, ends, keeps}
use Rattle.am_tree.specs.Listed.{tuples_of}
use Rattle.am_all.specs.Theorems.{HasEachBest, HasOnlyBest, IsEmptyWhereAbsent}
use Rattle.am_all.proofs.Lists.{any-cases, any-contains, any-here, any-none, any-there}
use Rattle.am_all.proofs.TreeLaws.{tuples-listed}

-- what is kept

keeps-only : {A : Type 0} (P : A → Type 0) (xs ys : List A) → KeepsWhere P xs ys → All (λ y. Contains xs y × P y) ys
keeps-only P _ _ ends = All-nil (λ y. Contains [] y × P y)
keeps-only P _ _ (keeps {x = x} {xs = xs} {ys = ys} here rest) =
    All-cons (λ y. Contains (x ∷ xs) y × P y) x ys ((any-contains (x ∷ xs) x).1 (any-here (λ z. z ≡ x) x xs refl), here)
    (All-weaker (λ y. Contains xs y × P y) (λ y. Contains (x ∷ xs) y × P y)
    (λ y h. ((any-contains (x ∷ xs) y).1 (any-there (λ z. z ≡ y) x xs ((any-contains xs y).0 h.0)), h.1)) ys
    (keeps-only P xs ys rest))
keeps-only P _ _ (drops {x = x} {xs = xs} {ys = ys} not rest) =
    All-weaker (λ y. Contains xs y × P y) (λ y. Contains (x ∷ xs) y × P y)
    (λ y h. ((any-contains (x ∷ xs) y).1 (any-there (λ z. z ≡ y) x xs ((any-contains xs y).0 h.0)), h.1)) ys
    (keeps-only P xs ys rest)

keeps-each : {A : Type 0} (P Q : A → Type 0) (xs ys : List A) → KeepsWhere P xs ys → Any (λ x. P x × Q x) xs → Any Q ys
keeps-each P Q _ _ ends h = absurd (any-none (λ x. P x × Q x) h)
keeps-each P Q _ _ (keeps {x = x} {xs = xs} {ys = ys} here rest) h = elim (any-cases (λ x. P x × Q x) x xs h) [
  | inl this ↦ any-here Q x ys this.1
  | inr those ↦ any-there Q x ys (keeps-each P Q xs ys rest those)
]
keeps-each P Q _ _ (drops {x = x} {xs = xs} {ys = ys} not rest) h = elim (any-cases (λ x. P x × Q x) x xs h) [
  | inl this ↦ absurd (not this.0)
  | inr those ↦ keeps-each P Q xs ys rest those
]

-- one that no other betters

-- a contradiction may be shown by cases
decided : {P : Type 0} → (P ⊎ (¬ P) → ⊥) → ⊥
decided f = f (inr (λ p. f (inl p)))

contains-here : {A : Type 0} (x : A) (xs : List A) → Contains (x ∷ xs) x
contains-here x xs = (any-contains (x ∷ xs) x).1 (any-here (λ z. z ≡ x) x xs refl)

contains-there : {A : Type 0} (x y : A) (xs : List A) → Contains xs y → Contains (x ∷ xs) y
contains-there x y xs h = (any-contains (x ∷ xs) y).1 (any-there (λ z. z ≡ y) x xs ((any-contains xs y).0 h))

none-all : {A : Type 0} (S Q : A → Type 0) (xs : List A) → ¬ Any S xs → All (λ y. S y → Q y) xs
none-all S Q xs none =
    All-weaker (Contains xs) (λ y. S y → Q y) (λ y stands s. absurd (none (stands.0, y, stands.1, stands.2, s))) xs
    (All-contains_itself xs)

-- among finitely many items some of which have a property there is one with it that none with it betters
minimal : {A : Type 0} (S : A → Type 0) (B : A → A → Type 0) → ((x y z : A) → B x y → B y z → B x z) →
    ((x : A) → ¬ B x x) → (xs : List A) → Any S xs →
    ((m : A) → Contains xs m → S m → All (λ y. S y → ¬ B y m) xs → ⊥) → ⊥
minimal S B trans irr [] some found = any-none S some
minimal S B trans irr (x ∷ xs) some found = decided {P = Any S xs} (λ p. elim p [
  | inl those ↦ minimal S B trans irr xs those (λ m stands s least. decided {P = S x × B x m} (λ q. elim q [
    | inl both ↦ found x (contains-here x xs) both.0 (All-cons (λ y. S y → ¬ B y x) x xs (λ s b. irr x b)
        (All-weaker (λ y. S y → ¬ B y m) (λ y. S y → ¬ B y x)
        (λ y unbettered s b. unbettered s (trans y x m b both.1)) xs least))
    | inr not ↦ found m (contains-there x m xs stands) s (All-cons (λ y. S y → ¬ B y m) x xs (λ s b. not (s, b)) least)
  ]))
  | inr none ↦ elim (any-cases S x xs some) [
    | inl s ↦ found x (contains-here x xs) s
        (All-cons (λ y. S y → ¬ B y x) x xs (λ s b. irr x b) (none-all S (λ y. ¬ B y x) xs none))
    | inr rest ↦ none rest
  ]
])

-- the laws

-- the listed tuples are best
pub only_best : HasOnlyBest
only_best p listed are =
    All-weaker (λ ts. Contains (tuples_of p.rules p.starts p.depth) ts × GivesBest p ts)
    (λ ts. AreTrees p.rules p.starts p.depth ts × GivesBest p ts)
    (λ ts h. ((tuples-listed p.rules p.starts p.depth ts).0 h.0, h.1)) listed
    (keeps-only (GivesBest p) (tuples_of p.rules p.starts p.depth) listed are)

-- best terms are listed
pub each_best : HasEachBest
each_best p listed are terms best =
    let ts = best.derivable.trees in
    let stands = (tuples-listed p.rules p.starts p.depth ts).1 best.derivable.derive in
    keeps-each (GivesBest p) (λ ts. terms_of p.rules p.starts ts ≡ terms)
    (tuples_of p.rules p.starts p.depth) listed are (
      stands.0,
      ts,
      stands.1,
      stands.2,
      (subst (IsBest (question_of p)) best.derivable.give best, sym best.derivable.give),
    )

-- no transformer betters itself
unbettered-self : (q : Question) (terms : List Term) → ¬ Betters q terms terms
unbettered-self q terms b = b.strict.no_member b.strict.member

-- where some transformer is sound, some is best
sound-best : (p : Problem) → ((ts : List Tree) → ¬ GivesBest p ts) → (terms : List Term) →
    (question_of p).Derivable terms → ¬ IsSound (question_of p) terms
sound-best p none terms derivable sound =
    let q = question_of p in
    let give = terms_of p.rules p.starts in
    let ts = derivable.trees in
    let stands = (tuples-listed p.rules p.starts p.depth ts).1 derivable.derive in
    minimal (λ us. IsSound q (give us)) (λ us vs. Betters q (give us) (give vs))
    (λ us vs ws. Betters-trans q (give us) (give vs) (give ws)) (λ us. unbettered-self q (give us))
    (tuples_of p.rules p.starts p.depth) (stands.0, ts, stands.1, stands.2, subst (IsSound q) derivable.give sound)
    (λ us listed is least. none us (record {
      derivable = record { trees = us; derive = (tuples-listed p.rules p.starts p.depth us).0 listed; give = refl };
      sound = is;
      unbettered = λ other derived other_sound betters.
          let vs = derived.trees in
          All-contains (λ vs. IsSound q (give vs) → ¬ Betters q (give vs) (give us))
          (tuples_of p.rules p.starts p.depth) vs least
          ((tuples-listed p.rules p.starts p.depth vs).1 derived.derive)
          (subst (IsSound q) derived.give other_sound) (subst (λ os. Betters q os (give us)) derived.give betters);
    }))

nothing : {A : Type 0} (P : A → Type 0) (ys : List A) → All P ys → ((y : A) → ¬ P y) → ys ≡ []
nothing P [] all none = refl
nothing P (y ∷ ys) all none = absurd (none y (All-head P y ys all))

-- the list is empty exactly where no transformer is sound
pub empty_where_absent : IsEmptyWhereAbsent
empty_where_absent p listed are = (
  λ empty. sound-best p (λ ts best.
      let found = each_best p listed are (terms_of p.rules p.starts ts) best in
      any-none (λ us. terms_of p.rules p.starts us ≡ terms_of p.rules p.starts ts)
      (subst (λ l. Any (λ us. terms_of p.rules p.starts us ≡ terms_of p.rules p.starts ts) l) empty found)),
  λ absent. nothing (λ ts. AreTrees p.rules p.starts p.depth ts × GivesBest p ts) listed (only_best p listed are)
      (λ ts best. absent (terms_of p.rules p.starts ts) best.1.derivable best.1.sound),
)
