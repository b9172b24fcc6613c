-- Trees in order, production by production.
use Rattle.std.proofs.Common.{◌≡◌, ℕ, zero, suc, ◌+◌, ◌<◌, List, [], ◌∷◌, ◌++◌, map, length, take, get_or, refl, sym}
use Rattle.std.proofs.Common.{◌∙◌, ap, subst, append_assoc, arith}
use Rattle.std.specs.Prelude.{All, Bool, slice_index_or}
use Rattle.std.specs.List.{flat_map}
use Rattle.std.proofs.lemmas.List.{append-nil, get_or-map, get_or_append_left, get_or_push, length-append, length-map}
use Rattle.std.proofs.lemmas.List.{length-take, take_more}
use Rattle.std.proofs.lemmas.List.Elements.{All-head, All-tail}
use Rattle.am_bv.specs.declared.op.Op.{Op}
use Rattle.am_tree.specs.declared.grammar.Production.{Production}
use Rattle.am_tree.specs.declared.grammar.Production.TheVariants.{Node}
use Rattle.am_tree.specs.declared.tree.Tree.{Tree}
use Rattle.am_tree.specs.Slots.{numbered}
use Rattle.am_tree.specs.Trees.{Rules, tree}
use Rattle.am_tree.specs.Listed.{choices, trees_by, trees_of}
use Rattle.am_all.specs.inside.Levels.{AreLevels, IsToldLevel}

-- the trees of productions that are numbered from a number on
abbrev pub trees_from : (ℕ → List Tree) → ℕ → List Production → List Tree
trees_from f i ps = flat_map (λ p. trees_by f p.number p.production) (numbered i ps)

-- with depth 0 there is no tree
pub trees_of-zero : (rules : Rules) (n : ℕ) → trees_of rules 0 n ≡ []
unfolding trees_of
trees_of-zero rules n = refl

-- with more depth there are those of the productions
pub trees_of-suc : (rules : Rules) (d n : ℕ) →
    trees_of rules (suc d) n ≡ trees_from (trees_of rules d) 0 (slice_index_or rules n [])
unfolding trees_of
trees_of-suc rules d n = refl

flat_map-nil : {A B : Type 0} (xs : List A) → flat_map {X = A} {A = B} (λ x. []) xs ≡ []
flat_map-nil [] = refl
flat_map-nil (x ∷ xs) = flat_map-nil xs

-- there are no choices where one of the lists is empty
pub choices-none : {A : Type 0} (lists : List (List A)) (i : ℕ) (d : List A) → i < length lists →
    get_or lists i d ≡ [] → choices lists ≡ []
choices-none [] i d l e = absurd (omega (arith, l))
choices-none (xs ∷ lists) zero d l e = ap (flat_map (λ x. map (λ others. x ∷ others) (choices lists))) e
choices-none (xs ∷ lists) (suc i) d l e =
    ap (λ rows. flat_map (λ x. map (λ others. x ∷ others) rows) xs) (choices-none lists i d (omega (arith, l)) e)
    ∙ flat_map-nil xs

-- nonterminals of which one has no tree have no tuple of trees
pub choices-told : (f : ℕ → List Tree) (names : List ℕ) (i : ℕ) → i < length names → f (get_or names i 0) ≡ [] →
    choices (map f names) ≡ []
choices-told f names i l none = choices-none (map f names) i [] (simp length-map l) (get_or-map f names i 0 [] l ∙ none)

-- a node production without a tuple of children has no tree
pub trees_by-none : (f : ℕ → List Tree) (i : ℕ) (op : Op) (names : List ℕ) → choices (map f names) ≡ [] →
    trees_by f i (Node op names) ≡ []
trees_by-none f i op names none = ap (map (tree i)) none

-- productions without trees
pub trees_from-none : (f : ℕ → List Tree) (i : ℕ) (ps : List Production) →
    All (λ p. (k : ℕ) → trees_by f k p ≡ []) ps → trees_from f i ps ≡ []
trees_from-none f i [] none = refl
trees_from-none f i (p ∷ ps) none =
    ap (λ ts. ts ++ trees_from f (i + 1) ps) (All-head (λ p. (k : ℕ) → trees_by f k p ≡ []) p ps none i)
    ∙ trees_from-none f (i + 1) ps (All-tail (λ p. (k : ℕ) → trees_by f k p ≡ []) p ps none)

-- a nonterminal whose productions have no tree has none
pub trees_of-none : (rules : Rules) (d n : ℕ) →
    All (λ p. (k : ℕ) → trees_by (trees_of rules d) k p ≡ []) (slice_index_or rules n []) →
    trees_of rules (suc d) n ≡ []
trees_of-none rules d n none =
    trees_of-suc rules d n ∙ trees_from-none (trees_of rules d) 0 (slice_index_or rules n []) none

-- one production more
trees_from-push : (f : ℕ → List Tree) (i : ℕ) (ps : List Production) (p : Production) →
    trees_from f i (ps ++ p ∷ []) ≡ trees_from f i ps ++ trees_by f (i + length ps) p
trees_from-push f i [] p = append-nil (trees_by f i p) ∙ ap (λ k. trees_by f k p) (let e : i ≡ i + 0 = omega arith in e)
trees_from-push f i (q ∷ ps) p =
    ap (λ ts. trees_by f i q ++ ts) (trees_from-push f (i + 1) ps p)
    ∙ sym (append_assoc (trees_by f i q) (trees_from f (i + 1) ps) (trees_by f (i + 1 + length ps) p))
    ∙ ap (λ k. trees_by f i q ++ trees_from f (i + 1) ps ++ trees_by f k p)
    (let e : i + 1 + length ps ≡ i + suc (length ps) = omega arith in e)

-- a loop over the productions goes on
pub trees_from-more : (f : ℕ → List Tree) (ps : List Production) (i : ℕ) (p : Production) (so_far next : List Tree) →
    i < length ps → p ≡ get_or ps i p → so_far ≡ trees_from f 0 (take i ps) → next ≡ so_far ++ trees_by f i p →
    next ≡ trees_from f 0 (take (i + 1) ps)
trees_from-more f ps i p so_far next l is h e =
    let more : take (i + 1) ps ≡ take i ps ++ p ∷ [] = take_more ps i p l ∙ ap (λ q. take i ps ++ q ∷ []) (sym is) in
    let place : 0 + length (take i ps) ≡ i = simp length-take (omega arith) in
    e ∙ ap (λ ts. ts ++ trees_by f i p) h ∙ sym
    (ap (trees_from f 0) more ∙ trees_from-push f 0 (take i ps) p ∙ ap
    (λ k. trees_from f 0 (take i ps) ++ trees_by f k p) place)

-- the last level and those below it

-- what the last level tells
pub levels-last : (rules : Rules) (levels below : List (List Bool)) (level : List Bool) →
    levels ≡ below ++ level ∷ [] → AreLevels rules levels → IsToldLevel (trees_of rules (length below)) level
levels-last rules levels below level e h =
    let told : IsToldLevel (trees_of rules (length below)) (get_or (below ++ level ∷ []) (length below) []) =
    subst (λ ls. IsToldLevel (trees_of rules (length below)) (get_or ls (length below) [])) e
    (h (length below) (omega (arith, simp length-append at (ap length e)))) in
    subst (IsToldLevel (trees_of rules (length below))) (get_or_push below level [] (length below) refl) told

-- what the levels below it tell
pub levels-below : (rules : Rules) (levels below : List (List Bool)) (level : List Bool) →
    levels ≡ below ++ level ∷ [] → AreLevels rules levels → AreLevels rules below
levels-below rules levels below level e h = λ d l.
    subst (IsToldLevel (trees_of rules d)) (ap (λ ls. get_or ls d []) e ∙ get_or_append_left below (level ∷ []) [] d l)
    (h d (omega (arith, l, simp length-append at (ap length e))))
