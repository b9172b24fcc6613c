-- The longest row of bytes in front of a list that pass a test.
use Rattle.std.proofs.Common.{◌≡◌, ℕ, suc, ◌+◌, Bool, true, false, cond, List, [], ◌∷◌, ◌++◌, length, take, drop, ap}
use Rattle.std.proofs.Common.{◌∙◌, refl, sym, arith, ⊎_elim}
use Rattle.std.specs.List.{prefix_len, list_all}
use Rattle.std.proofs.lemmas.Bool.{cases_Bool, and_parts}

-- a byte that passes makes the row in front one longer
pub prefix_yes : (p : ℕ → Bool) (b : ℕ) (bs : List ℕ) → p b ≡ true →
    prefix_len p (b ∷ bs) ≡ suc (prefix_len p bs)
prefix_yes p b bs h = ap (λ t. cond t (1 + prefix_len p bs) 0) h ∙ omega arith

-- a byte that fails ends the row at once
pub prefix_no : (p : ℕ → Bool) (b : ℕ) (bs : List ℕ) → p b ≡ false → prefix_len p (b ∷ bs) ≡ 0
prefix_no p b bs h = ap (λ t. cond t (1 + prefix_len p bs) 0) h

-- a first byte before an empty row fails
pub prefix_zero : (p : ℕ → Bool) (b : ℕ) (bs : List ℕ) → prefix_len p (b ∷ bs) ≡ 0 → p b ≡ false
prefix_zero p b bs h =
    ⊎_elim
    (λ (k : p b ≡ true). absurd (omega (arith, sym (prefix_yes p b bs k) ∙ h)))
    (λ (k : p b ≡ false). k)
    (cases_Bool (p b))

-- each byte of the row passes
pub row_passes : (p : ℕ → Bool) (bs : List ℕ) → list_all p (take (prefix_len p bs) bs) ≡ true
row_passes p [] = refl
row_passes p (b ∷ bs) =
    ⊎_elim
    (λ (h : p b ≡ true). ap (λ n. list_all p (take n (b ∷ bs))) (prefix_yes p b bs h) ∙ (rw h (row_passes p bs)))
    (λ (h : p b ≡ false). ap (λ n. list_all p (take n (b ∷ bs))) (prefix_no p b bs h))
    (cases_Bool (p b))

-- none follows it
pub row_ends : (p : ℕ → Bool) (bs : List ℕ) → prefix_len p (drop (prefix_len p bs) bs) ≡ 0
row_ends p [] = refl
row_ends p (b ∷ bs) =
    ⊎_elim
    (λ (h : p b ≡ true). ap (λ n. prefix_len p (drop n (b ∷ bs))) (prefix_yes p b bs h) ∙ row_ends p bs)
    (λ (h : p b ≡ false). ap (λ n. prefix_len p (drop n (b ∷ bs))) (prefix_no p b bs h) ∙ prefix_no p b bs h)
    (cases_Bool (p b))

-- bytes that pass are the row, where no byte that passes follows them
pub row_whole : (p : ℕ → Bool) (row behind : List ℕ) → list_all p row ≡ true → prefix_len p behind ≡ 0 →
    prefix_len p (row ++ behind) ≡ length row
row_whole p [] behind h ends = ends
row_whole p (b ∷ row) behind h ends =
    prefix_yes p b (row ++ behind) (and_parts _ _ h).0 ∙ ap suc (row_whole p row behind (and_parts _ _ h).1 ends)

-- where no row is in front of two lists, none is in front of the first
pub row_none : (p : ℕ → Bool) (xs ys : List ℕ) → prefix_len p (xs ++ ys) ≡ 0 → prefix_len p xs ≡ 0
row_none p [] ys h = refl
row_none p (x ∷ xs) ys h = prefix_no p x xs (prefix_zero p x (xs ++ ys) h)
