-- Flows are read exactly where they are spelled, and a flow is good exactly where it is within the limits.
use Rattle.std.proofs.Common.{◌≡◌, ℕ, ◌+◌, ◌<◌, ◌≤◌, ◌^◌, List, [], ◌∷◌, ◌++◌, length, codes, refl, ap}
use Rattle.std.proofs.Common.{arith, lit<, lit≤, Ok, length-append}
use Rattle.std.specs.Prelude.{All}
use Rattle.std.proofs.lemmas.Bool.{lt-ltb, ltb-true}
use Rattle.std.proofs.lemmas.Nat.{pow_pos}
use Rattle.std.proofs.lemmas.List.Elements.{All-cons, All-head, All-nil, All-tail}
use Rattle.am_problem.proofs.Laws.{domain_law}
use Rattle.am_problem.specs.Grammar.{domain}
use Rattle.am_text.specs.Tokens.{Left}
use Rattle.am_syntax.specs.Pieces.{below, good_from, key_or, number, syntax}
use Rattle.am_syntax.proofs.Laws.{closed_law, keyed_law, number_law, seen_law, then_law}
use Rattle.am_flow.specs.declared.flow.Action.{Action}
use Rattle.am_flow.specs.declared.flow.Action.TheVariants.{Any, Apply, Copy, Set, Skip}
use Rattle.am_flow.specs.declared.flow.Edge.{Edge}
use Rattle.am_flow.specs.Flows.{Flow, IsAction, IsEdge, IsFlow}
use Rattle.am_flow.specs.Grammar.{FlowParts, FlowShape, action, edge, edge_line, edges, flow, flow_of, flow_parts}
use Rattle.am_flow.specs.Grammar.{variable}
use Rattle.am_flow.specs.Texts.{FlowsAreExact, GoodFlowsAreFlows}
use Rattle.am_flow.specs.inside.Shapes.{IsFlowShape}
use Rattle.am_flow.proofs.EdgeLaws.{edges_law}

-- ---- texts

abbrev pub shape_at : ℕ → ℕ → ℕ → ℕ → FlowShape
shape_at n w v m = record { width = w; operations = n; variables = v; nodes = m }

-- counts within a flow's limits make a shape
pub small_shape : (n w v m : ℕ) → n < 2 ^ 32 → w ≤ 8 → v ≤ 8 → m ≤ 64 → IsFlowShape (shape_at n w v m)
small_shape n w v m few narrow some short =
    record { width = narrow; operations = omega arith; variables = omega arith; nodes = omega arith }

there : (x : FlowParts) → (1 ≤ x.0) × (x.0 ≤ 1) → flow_parts (flow_of x) ≡ x
there x one = ap (λ (n : ℕ). (n, x.1)) (let e : 1 ≡ x.0 = omega (arith, one) in e)

-- a flow is read exactly where one within the limits is spelled
pub flow_law : FlowsAreExact
unfolding flow number
flow_law n few =
    seen_law flow_of flow_parts
    (then_law (keyed_law syntax (codes "flow") (number_law 1 1 (lit< tt))) (λ _ _.
    then_law (keyed_law syntax (codes "width") (number_law 2 8 (lit< tt))) (λ w wide.
    then_law (keyed_law syntax (codes "domain") domain_law) (λ _ _.
    then_law (keyed_law syntax (codes "variables") (number_law 1 8 (lit< tt))) (λ v some.
    then_law (keyed_law syntax (codes "nodes") (number_law 1 64 (lit< tt))) (λ m short.
    closed_law syntax (codes "end") (edges_law (shape_at n w v m) (small_shape n w v m few wide.1 some.1 short.1))
    (λ rest. refl))
    (λ _ _ _ _ _ _. tt)) (λ _ _ _ _ _ _. tt)) (λ _ _ _ _ _ _. tt)) (λ _ _ _ _ _ _. tt)) (λ _ _ _ _ _ _. tt))
    (λ x good. there x good.0) (λ f. refl)

-- ---- limits

module _ (f : Flow) (n : ℕ) where
  abbrev s : FlowShape
  s = shape_at n f.width f.variables f.nodes

  variables_limits : (seen more : List ℕ) → good_from (λ _. variable s) seen more → All (λ b. b < f.variables) more
  unfolding below
  variables_limits seen [] good = All-nil (λ b. b < f.variables)
  variables_limits seen (b ∷ more) good =
      All-cons (λ b. b < f.variables) b more good.0.1 (variables_limits (seen ++ b ∷ []) more good.1)

  variables_good : (seen more : List ℕ) → All (λ b. b < f.variables) more → good_from (λ _. variable s) seen more
  unfolding below
  variables_good seen [] all = tt
  variables_good seen (b ∷ more) all = (
    (omega arith, All-head (λ b. b < f.variables) b more all),
    variables_good (seen ++ b ∷ []) more (All-tail (λ b. b < f.variables) b more all),
  )

  action_limits : (a : Action) → (action s).Good a → IsAction f n a
  unfolding action below number key_or
  action_limits Skip good = tt
  action_limits (Any a) good = good.1
  action_limits (Set a c) good = (good.0.1, omega (arith, good.1.1, pow_pos f.width))
  action_limits (Copy a b) good = (good.0.1, good.1.1)
  action_limits (Apply i a []) good = absurd (omega (arith, good.1.1.0.1))
  action_limits (Apply i a (b ∷ more)) good = (
    good.0.1,
    good.1.0.1,
    (λ e. cc),
    All-cons (λ b. b < f.variables) b more good.1.1.0.1 (variables_limits [] more good.1.1.1),
  )

  action_good : (a : Action) → IsAction f n a → (action s).Good a
  unfolding action below number key_or
  action_good Skip is = tt
  action_good (Any a) is = (omega arith, is)
  action_good (Set a c) is = ((omega arith, is.0), (omega arith, omega (arith, is.1)))
  action_good (Copy a b) is = ((omega arith, is.0), (omega arith, is.1))
  action_good (Apply i a []) is = absurd (is.2 refl)
  action_good (Apply i a (b ∷ more)) is = (
    (omega arith, is.0),
    (
      (omega arith, is.1),
      (
        (omega arith, All-head (λ b. b < f.variables) b more is.3),
        variables_good [] more (All-tail (λ b. b < f.variables) b more is.3),
      ),
    ),
  )

  edges_limits : (seen es : List Edge) → length seen ≤ 256 → good_from (edge s) seen es →
      All (IsEdge f n) es × (length seen + length es ≤ 256)
  unfolding edge edge_line below
  edges_limits seen [] few good = (All-nil (IsEdge f n), omega (arith, few))
  edges_limits seen (e ∷ es) few good =
      let room : length seen < 256 = ltb-true (length seen) 256 good.0.0 in
      let more = edges_limits (seen ++ e ∷ []) es (omega (arith, length-append seen (e ∷ []))) good.1 in
      let is : IsEdge f n e =
      record { from = good.0.1.0.1; to = good.0.1.1.0.1; action = action_limits e.action good.0.1.1.1 } in
      (All-cons (IsEdge f n) e es is more.0, omega (arith, more.1, length-append seen (e ∷ [])))

  edges_good : (seen es : List Edge) → All (IsEdge f n) es → length seen + length es ≤ 256 →
      good_from (edge s) seen es
  unfolding edge edge_line below
  edges_good seen [] all few = tt
  edges_good seen (e ∷ es) all few =
      let is = All-head (IsEdge f n) e es all in (
        (
          lt-ltb (length seen) 256 (omega arith),
          ((omega arith, is.from), ((omega arith, is.to), action_good e.action is.action)),
        ),
        edges_good (seen ++ e ∷ []) es (All-tail (IsEdge f n) e es all)
            (omega (arith, length-append seen (e ∷ []))),
      )

  pub flow_limits : (flow n).Good f → IsFlow n f
  unfolding flow edges number domain
  flow_limits good =
      let edged = edges_limits [] f.edges (lit≤ tt) good.1.1.1.1.1 in
      record {
        width = good.1.0;
        variables = good.1.1.1.0;
        nodes = good.1.1.1.1.0;
        few = omega (arith, edged.1);
        edges = edged.0;
      }

  pub flow_good : IsFlow n f → (flow n).Good f
  unfolding flow edges number domain
  flow_good is = (
    (lit≤ tt, lit≤ tt),
    (is.width, (tt, (is.variables, (is.nodes, edges_good [] f.edges is.edges (omega (arith, is.few)))))),
  )

-- a flow is good exactly where it is within the limits
pub good_flows : GoodFlowsAreFlows
good_flows n f = (flow_limits f n, flow_good f n)

-- what is read is within the limits
pub read_limits : (n : ℕ) → n < 2 ^ 32 → (s : Left) (f : Flow) (t : Left) → (flow n).read s ≡ Ok (f, t) → IsFlow n f
read_limits n few s f t e = flow_limits f n ((flow_law n few).takes s f t e).1
