-- Rows in which one value may be another.
use Rattle.std.specs.Prelude.{◌<◌, Option, None, Some, length, slice_set}
use Rattle.std.specs.Option.{ForSome}
use Rattle.am_flow.specs.States.{FlowRow}
use Rattle.am_flow.specs.declared.stepped.Change.{Change}

-- the row with the change, if there is one
abbrev pub changed : FlowRow → Option Change → FlowRow
changed row None = row
changed row (Some c) = slice_set row c.variable c.value

-- the variable is one of the row's
abbrev pub IsChange : FlowRow → Option Change → Type 0
IsChange row change = ForSome change (λ (c : Change). c.variable < length row)
