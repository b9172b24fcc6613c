-- The grammar of a flow's text, line by line.
use Rattle.std.specs.Prelude.{ℕ, ◌-◌, ◌^◌, nat_lt, List, [], ◌∷◌, length, codes, ◌⊎◌}
use Rattle.std.proofs.Common.{inl, inr}
use Rattle.am_problem.specs.Grammar.{keyed_domain}
use Rattle.am_problem.specs.declared.kind.Kind.{Kind}
use Rattle.am_syntax.specs.Pieces.{◌▹◌, Piece, below, choice, closed, is_number_next, key, keyed, keyed_number}
use Rattle.am_syntax.specs.Pieces.{next_is, number, one_more, repeat, seen_as, width}
use Rattle.am_flow.specs.Flows.{Flow}
use Rattle.am_flow.specs.declared.flow.Action.{Action}
use Rattle.am_flow.specs.declared.flow.Action.TheVariants.{Any, Apply, Copy, Set, Skip}
use Rattle.am_flow.specs.declared.flow.Edge.{Edge}

-- ---- actions

-- what the lines before say of the edges: the width, and how many operations, variables and nodes there are
pub record FlowShape : Type 0 where
  pub width : ℕ
  pub operations : ℕ
  pub variables : ℕ
  pub nodes : ℕ

-- the number of a variable
abbrev pub variable : FlowShape → Piece ℕ
variable s = below 0 s.variables

-- apply I A B { B }
abbrev pub application : FlowShape → Piece (ℕ × (ℕ × (ℕ × List ℕ)))
application s =
    below 0 s.operations ▹ λ _. variable s ▹ λ _. variable s ▹ λ _. repeat is_number_next (λ _. variable s)

-- skip, any, set, copy or apply, each with the numbers that follow it
abbrev pub ActionParts : Type 0
ActionParts = Unit {0} ⊎ (ℕ ⊎ ((ℕ × ℕ) ⊎ ((ℕ × ℕ) ⊎ (ℕ × (ℕ × (ℕ × List ℕ))))))

-- the action that was read
abbrev pub action_of : ActionParts → Action
action_of (inl u) = Skip
action_of (inr (inl a)) = Any a
action_of (inr (inr (inl (a, c)))) = Set a c
action_of (inr (inr (inr (inl (a, b))))) = Copy a b
action_of (inr (inr (inr (inr (i, (a, (b, more))))))) = Apply i a (b ∷ more)

-- an application to no variable is that to one that isn't there
abbrev pub action_parts : FlowShape → Action → ActionParts
action_parts s Skip = inl tt
action_parts s (Any a) = inr (inl a)
action_parts s (Set a c) = inr (inr (inl (a, c)))
action_parts s (Copy a b) = inr (inr (inr (inl (a, b))))
action_parts s (Apply i a []) = inr (inr (inr (inr (i, (a, (s.variables, []))))))
action_parts s (Apply i a (b ∷ more)) = inr (inr (inr (inr (i, (a, (b, more))))))

-- skip, any A, set A C, copy A B, or apply I A B { B }
unfoldable pub action : FlowShape → Piece Action
action s = seen_as action_of (action_parts s) (
    choice (next_is (codes "skip")) (key (codes "skip")) (
    choice (next_is (codes "any")) (keyed (codes "any") (variable s)) (
    choice (next_is (codes "set")) (keyed (codes "set") (variable s ▹ λ _. number 0 (2 ^ s.width - 1))) (
    choice (next_is (codes "copy")) (keyed (codes "copy") (variable s ▹ λ _. variable s))
    (keyed (codes "apply") (application s))))))

-- ---- edges

-- the edge that was read
abbrev pub edge_of : ℕ × (ℕ × Action) → Edge
edge_of (from, (to, action)) = record { from = from; to = to; action = action }

-- what is spelled of an edge
abbrev pub edge_parts : Edge → ℕ × (ℕ × Action)
edge_parts e = (e.from, (e.to, e.action))

-- edge FROM TO ACTION
unfoldable pub edge_line : FlowShape → Piece Edge
edge_line s =
    seen_as edge_of edge_parts (keyed (codes "edge") (below 0 s.nodes ▹ λ _. below 0 s.nodes ▹ λ _. action s))

-- an edge after others, of which there may be one more
unfoldable pub edge : FlowShape → List Edge → Piece Edge
edge s seen = one_more (nat_lt (length seen) 256) (edge_line s)

-- the edges of a flow, one line each
unfoldable pub edges : FlowShape → Piece (List Edge)
edges s = repeat (next_is (codes "edge")) (edge s)

-- ---- the whole

-- the version, the width, the domain, the numbers of variables and nodes, and the edges
abbrev pub FlowParts : Type 0
FlowParts = ℕ × (ℕ × (Kind × (ℕ × (ℕ × List Edge))))

-- the flow that was read
abbrev pub flow_of : FlowParts → Flow
flow_of (_, (w, (kind, (v, (m, edges))))) =
    record { width = w; kind = kind; variables = v; nodes = m; edges = edges }

-- what is spelled of a flow, in version 1
abbrev pub flow_parts : Flow → FlowParts
flow_parts f = (1, (f.width, (f.kind, (f.variables, (f.nodes, f.edges)))))

-- a flow over so many operations, up to its end
unfoldable pub flow : ℕ → Piece Flow
flow operations = seen_as flow_of flow_parts (
    keyed_number (codes "flow") 1 1 ▹ λ _.
    width ▹ λ w.
    keyed_domain ▹ λ _.
    keyed_number (codes "variables") 1 8 ▹ λ v.
    keyed_number (codes "nodes") 1 64 ▹ λ m.
    closed (codes "end")
    (edges (record { width = w; operations = operations; variables = v; nodes = m })))
