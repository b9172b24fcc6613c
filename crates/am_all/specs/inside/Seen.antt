-- What stands behind references.
use denote.Ref.{Bor}
use Rattle.std.specs.Prelude.{List, map}

-- the items behind a row of references
abbrev pub seen : {T : Type 0} → List (Bor T) → List T
seen row = map (λ t. t.now) row

-- the same of each row
abbrev pub seen_rows : {T : Type 0} → List (List (Bor T)) → List (List T)
seen_rows rows = map (λ row. map (λ t. t.now) row) rows
