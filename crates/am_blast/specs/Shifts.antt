-- Shifts of words, one stage for each bit of the amount.
use Rattle.std.specs.Prelude.{ℕ, ◌+◌, ◌-◌, ◌^◌, List, [], ◌∷◌, ◌++◌, length, take, drop, replicate, slice_index}
use Rattle.am_gate.specs.Build.{Step, ◌>>=◌, answer}
use Rattle.am_blast.specs.declared.bitwise.Gate.TheVariants.{Choose}
use Rattle.am_blast.specs.declared.shift.Direction.{Direction}
use Rattle.am_blast.specs.declared.shift.Direction.TheVariants.{Up, Down}
use Rattle.am_blast.specs.Bitwise.{bitwise}

-- a word moved by n bits, towards its top or towards bit 0, with copies of a literal moved in
abbrev pub moved : Direction → ℕ → ℕ → List ℕ → List ℕ
moved Up fill n word = take (length word) (replicate n fill ++ word)
moved Down fill n word = drop n (word ++ replicate n fill)

-- the last literal of a word, which is its sign
abbrev pub top : List ℕ → ℕ
top word = slice_index word (length word - 1)

-- the word moved by 2 ^ k bits where the amount's bit k is set, for each k from the first of these bits on
unfoldable pub shifted_from : (ℕ → List ℕ → List ℕ) → ℕ → List ℕ → List ℕ → Step (List ℕ)
shifted_from moved_by k word [] = answer word
shifted_from moved_by k word (y ∷ ys) = do
  next ← bitwise (Choose y) (moved_by (2 ^ k) word) word
  shifted_from moved_by (k + 1) next ys

-- the word moved by the amount that the other word reads
abbrev pub shifted : (ℕ → List ℕ → List ℕ) → List ℕ → List ℕ → Step (List ℕ)
shifted moved_by a b = shifted_from moved_by 0 a b
