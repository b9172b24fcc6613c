-- The kept items of a list, one more at a time.
use Rattle.std.proofs.Common.{List, [], ◌∷◌, ◌++◌}
use Rattle.am_all.specs.AllBest.{KeepsWhere, drops, ends, keeps}

-- one that is kept
pub keeps-kept : {A : Type 0} (P : A → Type 0) (xs ys : List A) (x : A) → KeepsWhere P xs ys → P x →
    KeepsWhere P (xs ++ x ∷ []) (ys ++ x ∷ [])
keeps-kept P _ _ x ends here = keeps here ends
keeps-kept P _ _ x (keeps first rest) here = keeps first (keeps-kept P _ _ x rest here)
keeps-kept P _ _ x (drops not rest) here = drops not (keeps-kept P _ _ x rest here)

-- one that isn't
pub keeps-dropped : {A : Type 0} (P : A → Type 0) (xs ys : List A) (x : A) → KeepsWhere P xs ys → ¬ P x →
    KeepsWhere P (xs ++ x ∷ []) ys
keeps-dropped P _ _ x ends not = drops not ends
keeps-dropped P _ _ x (keeps first rest) not = keeps first (keeps-dropped P _ _ x rest not)
keeps-dropped P _ _ x (drops other rest) not = drops other (keeps-dropped P _ _ x rest not)
