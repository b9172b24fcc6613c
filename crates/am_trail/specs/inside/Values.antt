-- The truth value of each literal, in the order of the literals' codes.
use Rattle.std.specs.Prelude.{ℕ, ◌<◌, List, length, slice_index_or, Contains}
use Rattle.am_lit.specs.Literal.{opposite_of}
use Rattle.am_lit.specs.UnitRow.{IsFree}
use Rattle.am_trail.specs.declared.values.Value.{Value}
use Rattle.am_trail.specs.declared.values.Value.TheVariants.{Free, True, False}

-- the value that a row of true literals gives a literal
abbrev pub IsLiteralValue : List ℕ → ℕ → Value → Type 0
IsLiteralValue row l Free = IsFree row l
IsLiteralValue row l True = Contains row l
IsLiteralValue row l False = Contains row (opposite_of l)

-- at the code of each literal stands its value
abbrev pub AreLiteralValues : List ℕ → List Value → Type 0
AreLiteralValues row values = (l : ℕ) → l < length values → IsLiteralValue row l (slice_index_or values l Free)
