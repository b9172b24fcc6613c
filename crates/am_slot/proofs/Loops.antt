-- What the loops of blocks go on with.
use Rattle.std.proofs.Common.{◌≡◌, ℕ, suc, ◌+◌, ◌<◌, ◌≤◌, Bool, true, false, cond, List, [], ◌∷◌, ◌++◌, map, drop}
use Rattle.std.proofs.Common.{length, get_or, drop-cons, add-one, append_assoc, refl, ap, arith}
use Rattle.std.specs.Prelude.{All}
use Rattle.std.specs.List.{filter, AllByRecursion, list_any}
use Rattle.std.proofs.lemmas.List.Elements.{All-nil, All-cons, recursion_from_All}
use Rattle.std.proofs.lemmas.List.{drop_all}
use Rattle.am_tree.specs.declared.grammar.Production.{Production}
use Rattle.am_tree.specs.declared.slots.Argument.{Argument}
use Rattle.am_tree.specs.Slots.{Numbered, numbered, is_offered, same, positioned, at_argument}
use Rattle.am_tree.proofs.Laws.{drop-from}

module _ (a : Argument) (ks : List Argument) (ws : List (List ℕ)) (i : ℕ) (d : Argument) where
  pub at-passed : i < length ks → length ws ≡ length ks → same a (get_or ks i d) ≡ false →
      at_argument [] (drop (i + 1) ks) (drop (i + 1) ws) a ≡ at_argument [] (drop i ks) (drop i ws) a
  at-passed l e f =
      let m : i < length ws = omega (arith, l, e) in
      rw (drop-cons ks i d l, drop-cons ws i [] m, f, add-one) refl

  pub at-here : i < length ks → length ws ≡ length ks → same a (get_or ks i d) ≡ true →
      at_argument [] (drop i ks) (drop i ws) a ≡ get_or ws i []
  at-here l e f =
      let m : i < length ws = omega (arith, l, e) in
      rw (drop-cons ks i d l, drop-cons ws i [] m, f) refl

  pub at-end : length ks ≤ i → at_argument [] (drop i ks) (drop i ws) a ≡ []
  at-end l = rw (drop_all i ks l) refl

-- one more argument
pub argument-more : (f : Argument → List ℕ) (args : List (List ℕ)) (i : ℕ) (names : List ℕ) → i < length names →
    (args ++ f (record { position = i; symbol = get_or names i 0 }) ∷ [])
    ++ map f (positioned (i + 1) (drop (i + 1) names))
    ≡ args ++ map f (positioned i (drop i names))
argument-more f args i names l = rw (append_assoc, drop-cons names i 0 l, add-one) refl

pub arguments-end : (f : Argument → List ℕ) (i : ℕ) (names : List ℕ) → length names ≤ i →
    map f (positioned i (drop i names)) ≡ []
arguments-end f i names l = rw (drop_all i names l) refl

-- the productions of a slot from a number on
abbrev pub offered_from : ℕ → ℕ → List Production → List Numbered
offered_from below i ps = filter (λ p. is_offered below p.production) (numbered i (drop i ps))

-- an offered production is the first of those from its number on
pub offered-next : (below i : ℕ) (p : Production) (ps : List Production) → i < length ps → p ≡ get_or ps i p →
    is_offered below p ≡ true →
    offered_from below i ps ≡ (record { number = i; production = p }) ∷ offered_from below (i + 1) ps
offered-next below i p ps l e t = rw (drop-from i p ps l e, t) refl

-- a production that isn't offered is passed over
pub offered-passed : (below i : ℕ) (p : Production) (ps : List Production) → i < length ps → p ≡ get_or ps i p →
    is_offered below p ≡ false →
    offered_from below i ps ≡ offered_from below (i + 1) ps
offered-passed below i p ps l e t = rw (drop-from i p ps l e, t) refl

-- past the last production there is none
pub offered-end : (below i : ℕ) (ps : List Production) → length ps ≤ i → offered_from below i ps ≡ []
offered-end below i ps l = rw (drop_all i ps l) refl

-- there is one argument for each nonterminal
pub length-positioned : (i : ℕ) (names : List ℕ) → length (positioned i names) ≡ length names
length-positioned i [] = refl
length-positioned i (n ∷ names) = ap suc (length-positioned (i + 1) names)

-- the words at arguments

-- and one word for each
pub length-words_at : (f : Argument → List ℕ) (i : ℕ) (names : List ℕ) →
    length (map f (positioned i names)) ≡ length names
length-words_at f i [] = refl
length-words_at f i (n ∷ names) = ap suc (length-words_at f (i + 1) names)

at-all : (P : List ℕ → Type 0) (ks : List Argument) (ws : List (List ℕ)) (a : Argument) → AllByRecursion P ws →
    length ws ≡ length ks → list_any (same a) ks ≡ true →
    P (at_argument [] ks ws a)
at-all P [] ws a h e s = cc
at-all P (k ∷ ks) [] a h e s = absurd (omega (arith, e))
at-all P (k ∷ ks) (x ∷ ws) a h e s = go (same a k) refl (at-all P ks ws a h.1 (omega (arith, e)))
  where
    go : (b : Bool) → same a k ≡ b → (list_any (same a) ks ≡ true → P (at_argument [] ks ws a)) →
        P (cond b x (at_argument [] ks ws a))
    go true f more = h.0
    go false f more = more (rw f at s)

-- what holds of each child's word holds of each argument's
pub words_all : (P : List ℕ → Type 0) (ks : List Argument) (ws : List (List ℕ)) → All P ws → length ws ≡ length ks →
    (rest : List Argument) → AllByRecursion (λ a. list_any (same a) ks ≡ true) rest →
    All P (map (at_argument [] ks ws) rest)
words_all P ks ws h e [] s = All-nil P
words_all P ks ws h e (a ∷ rest) s =
    All-cons P _ _ (at-all P ks ws a (recursion_from_All P ws h) e s.0) (words_all P ks ws h e rest s.1)
