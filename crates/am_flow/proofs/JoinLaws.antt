-- A loop that joins one value after another of two rows.
use Rattle.std.proofs.Common.{◌≡◌, ℕ, zero, suc, ◌+◌, ◌<◌, ◌≤◌, List, [], ◌∷◌, ◌++◌, get_or, length, take, drop, set}
use Rattle.std.proofs.Common.{refl, sym, ap, ◌∙◌, arith, append_assoc, append-nil, length-append}
use Rattle.std.proofs.lemmas.List.{drop_all, drop_more, get_or_at, length-drop, length-take-le, set_at, take_all}
use Rattle.std.proofs.lemmas.List.{take_more}
use Rattle.am_problem.specs.Kinds.{abstraction_of}
use Rattle.am_flow.specs.Flows.{Flow}
use Rattle.am_flow.specs.States.{FlowRow, joined_rows}

-- the value of a join at a variable
pub get_or-joined_rows : (f : Flow) (row others : FlowRow) (i : ℕ) → i < length row → i < length others →
    get_or (joined_rows f row others) i []
    ≡ (abstraction_of f.kind).join f.width (get_or row i []) (get_or others i [])
get_or-joined_rows f [] others i one two = absurd (omega arith)
get_or-joined_rows f (a ∷ row) [] i one two = absurd (omega arith)
get_or-joined_rows f (a ∷ row) (b ∷ others) zero one two = refl
get_or-joined_rows f (a ∷ row) (b ∷ others) (suc i) one two =
    get_or-joined_rows f row others i (omega arith) (omega arith)

-- a list whose items before a place are those of another
module _ {A : Type 0} (whole xs : List A) (i : ℕ) (many : length whole ≡ length xs) where
  -- a list of which a part was written over is as long
  pub length-over : i ≤ length xs → length (take i whole ++ drop i xs) ≡ length xs
  length-over within =
      let front : length (take i whole) ≡ i = length-take-le i whole (omega (arith, many)) in
      omega (arith, length-append (take i whole) (drop i xs), front, length-drop i xs)

  -- what isn't written over yet stands as it did
  pub get_or-over : (d : A) → i < length xs → get_or (take i whole ++ drop i xs) i d ≡ get_or xs i d
  get_or-over d below =
      ap (λ (ys : List A). get_or (take i whole ++ ys) i d) (drop_more xs i d below)
      ∙ get_or_at (take i whole) (get_or xs i d) (drop (i + 1) xs) d i (length-take-le i whole (omega (arith, many)))

  -- one more item is written over
  pub set-over : (y d : A) → i < length xs → y ≡ get_or whole i d →
      set (take i whole ++ drop i xs) i y ≡ take (i + 1) whole ++ drop (i + 1) xs
  set-over y d below e =
      ap (λ (ys : List A). set (take i whole ++ ys) i y) (drop_more xs i d below)
      ∙ set_at (take i whole) (get_or xs i d) (drop (i + 1) xs) y i (length-take-le i whole (omega (arith, many)))
      ∙ ap (λ (z : A). take i whole ++ z ∷ drop (i + 1) xs) e
      ∙ sym (append_assoc (take i whole) (get_or whole i d ∷ []) (drop (i + 1) xs))
      ∙ ap (λ (ys : List A). ys ++ drop (i + 1) xs) (sym (take_more whole i d (omega (arith, many))))

  -- at the end the whole list is written over
  pub all-over : length xs ≤ i → take i whole ++ drop i xs ≡ whole
  all-over past =
      ap (λ (ys : List A). ys ++ drop i xs) (take_all i whole (omega (arith, many)))
      ∙ ap (λ (ys : List A). whole ++ ys) (drop_all i xs past)
      ∙ append-nil whole
