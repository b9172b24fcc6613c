-- How large sums over slots are.
use Rattle.std.proofs.Common.{ℕ, zero, suc, ◌+◌, ◌*◌, ◌^◌, ◌≤◌, Bool, true, false, cond, List, [], ◌∷◌, ◌++◌, length}
use Rattle.std.proofs.Common.{sum_by, add-one, arith, lit≤, length-append}
use Rattle.std.specs.Prelude.{All, slice_index}
use Rattle.std.specs.List.{AllByRecursion, flat_map, list_any}
use Rattle.std.proofs.lemmas.List.Elements.{recursion_from_All}
use Rattle.std.proofs.lemmas.List.Sums.{sum_by-cons}
use Rattle.am_tree.specs.declared.grammar.Production.{Production}
use Rattle.am_tree.specs.declared.slots.Argument.{Argument}
use Rattle.am_tree.specs.Slots.{same, arguments, distinct, shared_by}

-- the most that the slots below one of a nonterminal count, with so many levels below it
abbrev pub bound : ℕ → ℕ
bound zero = 2097152
bound (suc b) = 256 * bound b

-- at most four levels below keep it below 2 ^ 53
pub bound-most : (b : ℕ) → b ≤ 4 → bound b ≤ 2 ^ 53
bound-most zero l = lit≤ tt
bound-most (suc zero) l = lit≤ tt
bound-most (suc (suc zero)) l = lit≤ tt
bound-most (suc (suc (suc zero))) l = lit≤ tt
bound-most (suc (suc (suc (suc zero)))) l = lit≤ tt
bound-most (suc (suc (suc (suc (suc b))))) l = absurd (omega (arith, l))

bound-least : (b : ℕ) → 2097152 ≤ bound b
bound-least zero = omega arith
bound-least (suc b) = omega (arith, bound-least b)

-- a sum of at most k numbers, none above m
pub sum-within : {A : Type 0} (f : A → ℕ) (m : ℕ) (xs : List A) → ((a : A) → f a ≤ m) → (k : ℕ) → length xs ≤ k →
    sum_by f xs ≤ k * m
sum-within f m [] h k l = omega arith
sum-within f m (x ∷ xs) h zero l = absurd (omega (arith, l))
sum-within f m (x ∷ xs) h (suc k) l = omega (arith, sum_by-cons f x xs, h x, sum-within f m xs h k (omega (arith, l)))

-- one level more
pub bound-next : (own : ℕ) (f : Argument → ℕ) (xs : List Argument) (b : ℕ) → own ≤ 2097152 →
    ((a : Argument) → f a ≤ bound b) → length xs ≤ 192 →
    own + sum_by f xs ≤ bound (b + 1)
bound-next own f xs b o h l = rw add-one (omega (arith, o, bound-least b, sum-within f (bound b) xs h 192 l))

pub length-distinct : (seen xs : List Argument) → length (distinct seen xs) ≤ length seen + length xs
length-distinct seen [] = omega arith
length-distinct seen (x ∷ xs) =
    go (list_any (same x) seen) (length-distinct seen xs) (length-distinct (seen ++ x ∷ []) xs)
  where
    go : (b : Bool) → length (distinct seen xs) ≤ length seen + length xs →
        length (distinct (seen ++ x ∷ []) xs) ≤ length (seen ++ x ∷ []) + length xs →
        length (distinct (cond b seen (seen ++ x ∷ [])) xs) ≤ length seen + length (x ∷ xs)
    go true had new = omega (arith, had)
    go false had new = omega (arith, new, length-append seen (x ∷ []))

length-arguments : (ps : List Production) → AllByRecursion (λ p. length (arguments p) ≤ 3) ps →
    length (flat_map arguments ps) ≤ 3 * length ps
length-arguments [] h = omega arith
length-arguments (p ∷ ps) h =
    omega (arith, length-append (arguments p) (flat_map arguments ps), h.0, length-arguments ps h.1)

-- at most 64 productions have at most 192 arguments
pub few-children : (ps : List Production) → AllByRecursion (λ p. length (arguments p) ≤ 3) ps → length ps ≤ 64 →
    length (shared_by 1 ps) ≤ 192
few-children ps h l = omega (arith, length-distinct [] (flat_map arguments ps), length-arguments ps h, l)

index-within : (m : ℕ) (xs : List ℕ) → AllByRecursion (λ x. x ≤ m) xs → (n : ℕ) → slice_index xs n ≤ m
index-within m [] h n = omega arith
index-within m (x ∷ xs) h zero = h.0
index-within m (x ∷ xs) h (suc n) = index-within m xs h.1 n

-- what stands at any place of a list, or 0 past its end
pub index-most : (m : ℕ) (xs : List ℕ) → All (λ x. x ≤ m) xs → (n : ℕ) → slice_index xs n ≤ m
index-most m xs h n = index-within m xs (recursion_from_All (λ x. x ≤ m) xs h) n
