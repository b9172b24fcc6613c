-- A text that grows piece by piece toward what is to be written.
use Rattle.std.proofs.Common.{◌≡◌, ℕ, zero, suc, ◌<◌, List, [], ◌∷◌, ◌++◌, take, drop, length, get_or, flat_map, Result}
use Rattle.std.proofs.Common.{Err, ap, subst, ◌∙◌, sym, refl, arith, append_assoc}
use Rattle.std.proofs.lemmas.List.{append-nil}
use Rattle.am_syntax.specs.Canonical.{Appends, GrewToward}

-- nothing was written yet
pub toward_none : (old text : List ℕ) → GrewToward old old text
toward_none old text = record { front = []; rest = text; held = sym (append-nil old); begins = refl }

-- one part was written, and another grew
pub toward : (old mid new a b c text : List ℕ) → mid ≡ old ++ a → GrewToward mid new b → text ≡ a ++ (b ++ c) →
    GrewToward old new text
toward old mid new a b c text done grew whole = record {
  front = a ++ grew.front;
  rest = grew.rest ++ c;
  held = grew.held ∙ ap (λ (bs : List ℕ). bs ++ grew.front) done ∙ append_assoc old a grew.front;
  begins =
      whole
      ∙ ap (λ (bs : List ℕ). a ++ (bs ++ c)) grew.begins
      ∙ ap (λ (bs : List ℕ). a ++ bs) (append_assoc grew.front grew.rest c)
      ∙ sym (append_assoc a grew.front (grew.rest ++ c));
}

-- a part was written, and the next call found no memory
pub toward_stopped : (old new a c text : List ℕ) → new ≡ old ++ a → text ≡ a ++ c → GrewToward old new text
toward_stopped old new a c text done whole = record { front = a; rest = c; held = done; begins = whole }

-- a call that fails has appended a part
pub appends_err : {E : Type 0} (r : Result (Unit {0}) E) (e : E) (old new text : List ℕ) → r ≡ Err e →
    GrewToward old new text → Appends r old new text
appends_err {E = E} r e old new text is grew = subst (λ (q : Result (Unit {0}) E). Appends q old new text) (sym is) grew

-- the items of a list before, at and after a place
pub flat_map_at : {A : Type 0} (f : A → List ℕ) (xs : List A) (i : ℕ) (x : A) → i < length xs → x ≡ get_or xs i x →
    flat_map f xs ≡ flat_map f (take i xs) ++ (f x ++ flat_map f (drop (suc i) xs))
flat_map_at f [] i x h at = absurd (omega arith)
flat_map_at f (y ∷ xs) zero x h at = ap (λ z. f z ++ flat_map f xs) (sym at)
flat_map_at f (y ∷ xs) (suc i) x h at =
    ap (λ (bs : List ℕ). f y ++ bs) (flat_map_at f xs i x (omega arith) at)
    ∙ sym (append_assoc (f y) (flat_map f (take i xs)) (f x ++ flat_map f (drop (suc i) xs)))

regrouped_at : (a b p s x q c : List ℕ) → a ++ (b ++ ((p ++ ((s ++ x) ++ q)) ++ c)) ≡
    (((a ++ b) ++ p) ++ s) ++ (x ++ (q ++ c))
regrouped_at a b p s x q c = simp append_assoc

-- what is written before an item's text, after the space, and what follows it
pub text_at : {A : Type 0} (text : A → List ℕ) (xs : List A) (i : ℕ) (x : A) (a b c : List ℕ) → i < length xs →
    x ≡ get_or xs i x →
    a ++ (b ++ (flat_map (λ y. 32 ∷ text y) xs ++ c)) ≡
    (((a ++ b) ++ flat_map (λ y. 32 ∷ text y) (take i xs)) ++ 32 ∷ []) ++
    (text x ++ (flat_map (λ y. 32 ∷ text y) (drop (suc i) xs) ++ c))
text_at text xs i x a b c h at =
    ap (λ (bs : List ℕ). a ++ (b ++ (bs ++ c))) (flat_map_at (λ y. 32 ∷ text y) xs i x h at)
    ∙ regrouped_at a b (flat_map (λ y. 32 ∷ text y) (take i xs)) (32 ∷ []) (text x)
    (flat_map (λ y. 32 ∷ text y) (drop (suc i) xs)) c

regrouped_items : (old a b p : List ℕ) → ((old ++ a) ++ b) ++ p ≡ old ++ ((a ++ b) ++ p)
regrouped_items old a b p = simp append_assoc

-- what the writer holds after some items
pub held_at : (old one two now a b p : List ℕ) → one ≡ old ++ a → two ≡ one ++ b → now ≡ two ++ p →
    now ≡ old ++ ((a ++ b) ++ p)
held_at old one two now a b p first second third =
    third ∙ ap (λ (bs : List ℕ). bs ++ p) (second ∙ ap (λ (bs : List ℕ). bs ++ b) first) ∙ regrouped_items old a b p

-- the space goes with the text after it
pub regrouped_space : (a b p s c : List ℕ) → (((a ++ b) ++ p) ++ s) ++ c ≡ ((a ++ b) ++ p) ++ (s ++ c)
regrouped_space a b p s c = simp append_assoc

-- the parts so far go together
pub regrouped_end : (a b p c : List ℕ) → a ++ (b ++ (p ++ c)) ≡ ((a ++ b) ++ p) ++ c
regrouped_end a b p c = simp append_assoc
