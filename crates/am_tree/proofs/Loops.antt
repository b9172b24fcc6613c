-- What loops over lists go on with.
use Rattle.std.proofs.Common.{◌≡◌, ℕ, zero, suc, ◌+◌, ◌<◌, ◌≤◌, Bool, true, false, cond, List, [], ◌∷◌, ◌++◌, ◌||◌, map}
use Rattle.std.proofs.Common.{drop, length, length-append, get_or, drop-cons, add-one, refl, sym, ◌∙◌, ap, subst, arith}
use borrow.Author.Count.{below_more}
use Rattle.std.proofs.Math.ListN.{get_or-append}
use Rattle.std.proofs.Math.Seq.{get_or-append_seam}
use Rattle.std.specs.List.{list_any, flat_map, filter}
use Rattle.std.proofs.lemmas.List.{drop_all, length-map}
use Rattle.am_tree.specs.declared.slots.Argument.{Argument}
use Rattle.am_tree.specs.Slots.{Numbered, numbered, is_offered, same, distinct, positioned, arguments, shared_by}
use Rattle.am_tree.specs.Slots.{shared, next_level, slot_at, level_slots}
use Rattle.am_tree.specs.Trees.{Rules}
use Rattle.am_tree.specs.declared.grammar.Production.{Production}

-- what holds of each place of a list holds of one more where it holds of the new item
pub each-push : {X : Type 0} (P : ℕ → X → Type 0) (xs : List X) (x d : X) (i : ℕ) → length xs ≡ i →
    ((n : ℕ) → n < i → P n (get_or xs n d)) → P i x →
    (n : ℕ) → n < i + 1 → P n (get_or (xs ++ x ∷ []) n d)
each-push P xs x d i e h here =
    below_more (λ n. P n (get_or (xs ++ x ∷ []) n d)) i
    (λ n l. subst (P n) (sym (get_or-append xs (x ∷ []) d n (omega (arith, e, l)))) (h n l))
    (subst (P i) (sym (subst (λ k. get_or (xs ++ x ∷ []) k d ≡ x) e (get_or-append_seam xs x [] d))) here)

-- the list from a place on begins with the item there
pub drop-from : {A : Type 0} (i : ℕ) (x : A) (xs : List A) → i < length xs → x ≡ get_or xs i x →
    drop i xs ≡ x ∷ drop (i + 1) xs
drop-from i x xs l e = drop-cons xs i x l ∙ rw (← e, add-one) refl

pub any-from : {A : Type 0} (test : A → Bool) (i : ℕ) (x : A) (xs : List A) → i < length xs → x ≡ get_or xs i x →
    list_any test (drop i xs) ≡ (test x || list_any test (drop (i + 1) xs))
any-from test i x xs l e = rw (drop-from i x xs l e) refl

pub any-none : {A : Type 0} (test : A → Bool) (i : ℕ) (xs : List A) → length xs ≤ i → list_any test (drop i xs) ≡ false
any-none test i xs l = rw (drop_all i xs l) refl

pub distinct-append : (seen xs ys : List Argument) → distinct seen (xs ++ ys) ≡ distinct (distinct seen xs) ys
distinct-append seen [] ys = refl
distinct-append seen (x ∷ xs) ys = distinct-append (cond (list_any (same x) seen) seen (seen ++ x ∷ [])) xs ys

pub positioned-from : (i k n : ℕ) (names : List ℕ) → k < length names → n ≡ get_or names k n →
    positioned i (drop k names) ≡ (record { position = i; symbol = n }) ∷ positioned (i + 1) (drop (k + 1) names)
positioned-from i k n names l e = rw (drop-from k n names l e) refl

pub positioned-none : (i k : ℕ) (names : List ℕ) → length names ≤ k → positioned i (drop k names) ≡ []
positioned-none i k names l = rw (drop_all k names l) refl

-- the distinct arguments from a production on: its own first, then those of the rest
pub distinct-production : (seen : List Argument) (ps : List Production) (i : ℕ) (p : Production) → i < length ps →
    p ≡ get_or ps i p →
    distinct (distinct seen (arguments p)) (flat_map arguments (drop (i + 1) ps))
    ≡ distinct seen (flat_map arguments (drop i ps))
distinct-production seen ps i p l e =
    rw (drop-from i p ps l e) (sym (distinct-append seen (arguments p) (flat_map arguments (drop (i + 1) ps))))

pub distinct-none : (seen : List Argument) (ps : List Production) (i : ℕ) → length ps ≤ i →
    distinct seen (flat_map arguments (drop i ps)) ≡ seen
distinct-none seen ps i l = rw (drop_all i ps l) refl

-- the children where there are levels below
pub shared_above : (below : ℕ) (ps : List Production) → 0 < below →
    shared_by below ps ≡ distinct [] (flat_map arguments ps)
shared_above zero ps l = absurd (omega (arith, l))
shared_above (suc below) ps l = refl

pub shared_last : (below : ℕ) (ps : List Production) → below ≤ 0 → shared_by below ps ≡ []
shared_last zero ps l = refl
shared_last (suc below) ps l = absurd (omega (arith, l))

pub any-at : {A : Type 0} (test : A → Bool) (i : ℕ) (d : A) (xs : List A) → i < length xs →
    list_any test (drop i xs) ≡ (test (get_or xs i d) || list_any test (drop (i + 1) xs))
any-at test i d xs l = rw (drop-cons xs i d l, add-one) refl

-- there is one argument for each nonterminal
pub length-positioned : (i : ℕ) (names : List ℕ) → length (positioned i names) ≡ length names
length-positioned i [] = refl
length-positioned i (n ∷ names) = ap suc (length-positioned (i + 1) names)

-- the distinct arguments from a place on: the one there first, then those of the rest
pub distinct-name : (seen : List Argument) (i : ℕ) (names : List ℕ) → i < length names →
    distinct (distinct seen ((record { position = i; symbol = get_or names i 0 }) ∷ []))
    (positioned (i + 1) (drop (i + 1) names))
    ≡ distinct seen (positioned i (drop i names))
distinct-name seen i names l = rw (drop-cons names i 0 l, add-one) refl

pub any-passed : (a : Argument) (i : ℕ) (b : Argument) (xs : List Argument) (d : Argument) → i < length xs →
    b ≡ get_or xs i d → same a b ≡ false →
    list_any (same a) (drop (i + 1) xs) ≡ list_any (same a) (drop i xs)
any-passed a i b xs d l is e =
    let f : same a (get_or xs i d) ≡ false = rw (← is) e in sym (any-at (same a) i d xs l ∙ rw f refl)

-- the productions of a slot from a number on
abbrev pub offered_from : ℕ → ℕ → List Production → List Numbered
offered_from below i ps = filter (λ p. is_offered below p.production) (numbered i (drop i ps))

-- an offered production is the first of those from its number on
pub offered-next : (below i : ℕ) (p : Production) (ps : List Production) → i < length ps → p ≡ get_or ps i p →
    is_offered below p ≡ true →
    offered_from below i ps ≡ (record { number = i; production = p }) ∷ offered_from below (i + 1) ps
offered-next below i p ps l e t = rw (drop-from i p ps l e, t) refl

pub offered-passed : (below i : ℕ) (p : Production) (ps : List Production) → i < length ps → p ≡ get_or ps i p →
    is_offered below p ≡ false →
    offered_from below i ps ≡ offered_from below (i + 1) ps
offered-passed below i p ps l e t = rw (drop-from i p ps l e, t) refl

pub offered-end : (below i : ℕ) (ps : List Production) → length ps ≤ i → offered_from below i ps ≡ []
offered-end below i ps l = rw (drop_all i ps l) refl

-- one slot more of a level
pub level-next : (rules : Rules) (below level child : ℕ) (ns : List ℕ) (i : ℕ) → i < length ns →
    level_slots rules below level child (drop i ns)
    ≡ slot_at rules below level child (get_or ns i 0)
    ∷ level_slots rules below level (child + length (shared rules below (get_or ns i 0))) (drop (i + 1) ns)
level-next rules below level child ns i l = rw (drop-cons ns i 0 l, add-one) refl

pub length-next : (rules : Rules) (below : ℕ) (ns : List ℕ) (i : ℕ) → i < length ns →
    length (next_level rules below (drop i ns))
    ≡ length (shared rules below (get_or ns i 0)) + length (next_level rules below (drop (i + 1) ns))
length-next rules below ns i l =
    rw (drop-cons ns i 0 l, add-one)
    (length-append (map (λ (a : Argument). a.symbol) (shared rules below (get_or ns i 0)))
    (next_level rules below (drop (suc i) ns))
    ∙ ap (λ k. k + length (next_level rules below (drop (suc i) ns)))
    (length-map (shared rules below (get_or ns i 0)) (λ (a : Argument). a.symbol)))
