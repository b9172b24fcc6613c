-- Where an argument stands in a list.
use Rattle.std.specs.Prelude.{ℕ, ◌+◌, Option, Some, None, List, [], ◌∷◌, if◌then◌else◌}
use Rattle.am_tree.specs.declared.slots.Argument.{Argument}
use Rattle.am_tree.specs.Slots.{same}

-- the place of an argument in a list whose places are counted from i on, if it stands there
abbrev pub place_from : ℕ → List Argument → Argument → Option ℕ
place_from i [] a = None
place_from i (k ∷ ks) a = if same a k then Some i else place_from (i + 1) ks a
