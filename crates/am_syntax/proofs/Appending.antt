-- What a row of calls appends, call by call, each of which may find no memory.
use Rattle.std.proofs.Common.{◌≡◌, ℕ, suc, ◌+◌, ◌<◌, List, [], ◌∷◌, ◌++◌, take, drop, length, get_or, flat_map, Result}
use Rattle.std.proofs.Common.{Ok, Err, IsErrAnd, OnErr, OnOk, ap, subst, ◌∙◌, sym, refl, append_assoc}
use Rattle.std.proofs.lemmas.List.{append-nil, flat_map_more, take_more}
use Rattle.am_syntax.specs.Canonical.{Appends, GrewToward}
use Rattle.am_syntax.proofs.Growing.{flat_map_at}

-- the first of two parts grew
pub grew_first : {old new a : List ℕ} (b : List ℕ) → GrewToward old new a → GrewToward old new (a ++ b)
grew_first b grew = record {
  front = grew.front;
  rest = grew.rest ++ b;
  held = grew.held;
  begins = ap (λ (bs : List ℕ). bs ++ b) grew.begins ∙ append_assoc grew.front grew.rest b;
}

-- the first of two parts was written, and the second grew
pub grew_next : {old mid new b : List ℕ} (a : List ℕ) → mid ≡ old ++ a → GrewToward mid new b →
    GrewToward old new (a ++ b)
grew_next {old = old} a done grew = record {
  front = a ++ grew.front;
  rest = grew.rest;
  held = grew.held ∙ ap (λ (bs : List ℕ). bs ++ grew.front) done ∙ append_assoc old a grew.front;
  begins = ap (λ (bs : List ℕ). a ++ bs) grew.begins ∙ sym (append_assoc a grew.front grew.rest);
}

-- the first of two parts was written, and the last call appends the second
pub appends_last : {E : Type 0} (r : Result (Unit {0}) E) (old mid new a b : List ℕ) → mid ≡ old ++ a →
    Appends r mid new b → Appends r old new (a ++ b)
appends_last (Ok u) old mid new a b done last =
    last ∙ ap (λ (bs : List ℕ). bs ++ b) done ∙ append_assoc old a b
appends_last (Err e) old mid new a b done last = grew_next a done last

-- no part stands after the text
pub appends_alone : {E : Type 0} (r : Result (Unit {0}) E) (old new a : List ℕ) → Appends r old new a →
    Appends r old new (a ++ [])
appends_alone r old new a h = subst (Appends r old new) (sym (append-nil a)) h

-- a call that changes nothing where it fails
pub appends_whole : {E : Type 0} (r : Result (Unit {0}) E) (old new text : List ℕ) → OnOk r (new ≡ old ++ text) →
    OnErr r (new ≡ old) → Appends r old new text
appends_whole (Ok u) old new text ok err = ok
appends_whole (Err e) old new text ok err =
    record { front = []; rest = text; held = err ∙ sym (append-nil old); begins = refl }

-- an error that is handed on
pub handed_on : {E : Type 0} (Q : E → Type 0) (r : Result (Unit {0}) E) (old new text : List ℕ) → IsErrAnd r Q →
    GrewToward old new text → Appends r old new text
handed_on Q (Ok u) old new text is grew = absurd is
handed_on Q (Err e) old new text is grew = grew

-- all of these, for a row of calls
pub ruleset appending = (appends_last, appends_alone, appends_whole, handed_on, grew_next, grew_first)

-- ---- loops that append the text of each item

-- the texts of the items before a place were written, and that of its item grew
pub grew_item : {A : Type 0} (f : A → List ℕ) (xs : List A) (i : ℕ) (x : A) (old mid new : List ℕ) →
    i < length xs → x ≡ get_or xs i x → mid ≡ old ++ flat_map f (take i xs) → GrewToward mid new (f x) →
    GrewToward old new (flat_map f xs)
grew_item f xs i x old mid new h at done grew =
    subst (GrewToward old new) (sym (flat_map_at f xs i x h at))
    (grew_next (flat_map f (take i xs)) done (grew_first (flat_map f (drop (suc i) xs)) grew))

-- the text of a place's item was written after those before it
pub wrote_item : {A : Type 0} (f : A → List ℕ) (xs : List A) (i : ℕ) (x : A) (old mid new : List ℕ) →
    i < length xs → x ≡ get_or xs i x → mid ≡ old ++ flat_map f (take i xs) → new ≡ mid ++ f x →
    new ≡ old ++ flat_map f (take (i + 1) xs)
wrote_item {A = A} f xs i x old mid new h at done last =
    last
    ∙ ap (λ (bs : List ℕ). bs ++ f x) done
    ∙ flat_map_more f old (take i xs) x
    ∙ ap (λ (ys : List A). old ++ flat_map f ys)
    (sym (take_more xs i x h ∙ ap (λ (y : A). take i xs ++ y ∷ []) (sym at)))
