-- Texts of flows and tables.
use Rattle.std.specs.Prelude.{ℕ, suc, ◌<◌, ◌^◌, List, [], ◌∷◌, ◌++◌, None, Some, codes, decimal}
use Rattle.am_syntax.specs.Exact.{IsExact, always}
use Rattle.am_flow.specs.Flows.{Flow, IsFlow}
use Rattle.am_flow.specs.Grammar.{flow}
use Rattle.am_flow.specs.States.{Entry, FlowRow, State}

-- ---- flows

-- a flow is read exactly where one is spelled, over fewer than 2^32 operations
abbrev pub FlowsAreExact : Type 0
FlowsAreExact = (operations : ℕ) → operations < 2 ^ 32 → IsExact (flow operations) always

-- a flow is good exactly where it is within the limits
abbrev pub GoodFlowsAreFlows : Type 0
GoodFlowsAreFlows = (operations : ℕ) (f : Flow) → ((flow operations).Good f → IsFlow operations f)
    × (IsFlow operations f → (flow operations).Good f)

-- ---- tables

-- the fields of a value, with commas between them
abbrev pub value_text : List ℕ → List ℕ
value_text [] = []
value_text (c ∷ []) = decimal c
value_text (c ∷ d ∷ cs) = decimal c ++ 44 ∷ value_text (d ∷ cs)

-- each value after a space
abbrev pub row_text : FlowRow → List ℕ
row_text [] = []
row_text (a ∷ row) = 32 ∷ (value_text a ++ row_text row)

-- the values of a row, or a dash for nothing
abbrev pub entry_text : Entry → List ℕ
entry_text None = 32 ∷ codes "-"
entry_text (Some row) = row_text row

-- a line for each node, from a number on
abbrev pub lines_from : ℕ → State → List ℕ
lines_from n [] = []
lines_from n (e ∷ table) = codes "node" ++ 32 ∷ (decimal n ++ (entry_text e ++ 10 ∷ lines_from (suc n) table))

-- the text of a table
abbrev pub table_text : State → List ℕ
table_text table = lines_from 0 table
