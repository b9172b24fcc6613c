-- Gates of constants, of a literal twice, and of a literal and its opposite, for which another literal stands.
use Rattle.std.specs.Prelude.{ℕ, Bool, ◌||◌, ◌&&◌, Option, None, Some, ◌==◌, if◌then◌else◌}
use Rattle.am_lit.specs.Literal.{opposite_of}
use Rattle.am_gate.specs.Circuit.{Event, Event.Input, Event.And, Event.Xor, Event.Mux, Event.Clause, truth, falsity}

-- the literal that stands for a gate, by the first line that fits, if one does
abbrev pub folded : Event → Option ℕ
folded Input = None
folded (And a b) =
    if (a == falsity) || (b == falsity) then Some falsity
    else if a == truth then Some b
    else if b == truth then Some a
    else if a == b then Some a
    else if a == opposite_of b then Some falsity
    else None
folded (Xor a b) =
    if a == falsity then Some b
    else if b == falsity then Some a
    else if a == truth then Some (opposite_of b)
    else if b == truth then Some (opposite_of a)
    else if a == b then Some falsity
    else if a == opposite_of b then Some truth
    else None
folded (Mux c a b) =
    if c == truth then Some a
    else if c == falsity then Some b
    else if a == b then Some a
    else if (a == truth) && (b == falsity) then Some c
    else if (a == falsity) && (b == truth) then Some (opposite_of c)
    else None
folded (Clause literals) = None

-- the same in a circuit that folds, and none in another one
abbrev pub folded_in : Bool → Event → Option ℕ
folded_in folding e = if folding then folded e else None
