-- The rows, entries and states of an analysis have abstract values, and keep them.
use Rattle.std.proofs.Common.{◌≡◌, ℕ, zero, suc, ◌+◌, ◌-◌, ◌<◌, ◌≤◌, List, [], ◌∷◌, get_or, length, map, replicate}
use Rattle.std.proofs.Common.{refl, sym, ap, ◌∙◌, subst, arith, ◌++◌, flat_map}
use Rattle.std.specs.Prelude.{All, MatchOption, Option, None, Some, filter, slice_get, slice_set, ◌==◌}
use Rattle.std.specs.List.{concat}
use Rattle.std.specs.Option.{option_map}
use Rattle.std.proofs.lemmas.List.{length-map, length-replicate, length-set}
use Rattle.std.proofs.lemmas.List.Elements.{All-cons, All-filter, All-head, All-map, All-nil, All-replicate, All-set}
use Rattle.std.proofs.lemmas.List.Elements.{All-tail, All-weaker}
use Rattle.am_bv.specs.Words.{IsWidth}
use Rattle.am_domain.specs.Meaning.{IsAbstract}
use Rattle.am_domain.specs.Question.{AreInputs, results}
use Rattle.am_domain.specs.Tuple.{IsTuple}
use Rattle.am_problem.proofs.Laws.{inputs_are_cut, results_are_tuples}
use Rattle.am_problem.specs.Examples.{IsFieldRow, inputs_of}
use Rattle.am_problem.specs.Kinds.{abstraction_of, fields_of, meaning_of}
use Rattle.am_problem.specs.Problem.{question_of}
use Rattle.am_problem.specs.declared.kind.Kind.{Kind}
use Rattle.am_problem.specs.lemmas.KindLaws.{laws_of}
use Rattle.am_flow.specs.declared.flow.Action.{Action}
use Rattle.am_flow.specs.declared.flow.Action.TheVariants.{Any, Apply, Copy, Set, Skip}
use Rattle.am_flow.specs.declared.flow.Edge.{Edge}
use Rattle.am_flow.specs.Flows.{AreOperations, Flow, Operation}
use Rattle.am_flow.specs.States.{Entry, FlowRow, State, all_joined, applied, at, edge_step, entries_from, entry_after}
use Rattle.am_flow.specs.States.{entry_at, first_state, from_entry, joined_entries, joined_rows, round, state_after}
use Rattle.am_flow.specs.States.{stepped}
use Rattle.am_flow.specs.inside.Rows.{IsFlowEntry, IsFlowRow, IsState}
use Rattle.am_flow.specs.inside.Steps.{CanAct, CanApply, CanFollowEdge}

-- an item within a list is there
pub found : {A : Type 0} (xs : List A) (i : ℕ) → i < length xs → (x : A) × (slice_get xs i ≡ Some x)
found [] i h = absurd (omega arith)
found (x ∷ xs) zero h = (x, refl)
found (x ∷ xs) (suc i) h = found xs i (omega arith)

-- an abstract value of the flow's domain and width
abbrev pub IsFlowValue : Flow → List ℕ → Type 0
IsFlowValue f a = IsAbstract (meaning_of f.kind) f.width a

-- ---- joins

module _ (f : Flow) where
  -- a row with another value of a variable
  pub set_row : (row : FlowRow) (a : ℕ) (value : List ℕ) → IsFlowRow f row → IsFlowValue f value → IsFlowRow f
      (slice_set row a value)
  set_row row a value is one = record {
    counted = length-set row a value ∙ is.counted;
    values = All-set (IsFlowValue f) row a value one is.values;
  }

  -- a joined row is as long as the first
  pub length-joined_rows : (row others : FlowRow) → length (joined_rows f row others) ≡ length row
  length-joined_rows [] others = refl
  length-joined_rows (a ∷ row) [] = refl
  length-joined_rows (a ∷ row) (b ∷ others) = ap suc (length-joined_rows row others)

module _ (f : Flow) (width : IsWidth f.width) where
  joined_values : (row others : FlowRow) → All (IsFlowValue f) row → All (IsFlowValue f) others →
      All (IsFlowValue f) (joined_rows f row others)
  joined_values [] others one two = All-nil (IsFlowValue f)
  joined_values (a ∷ row) [] one two = one
  joined_values (a ∷ row) (b ∷ others) one two =
      let join = (laws_of f.kind).joins_above f.width width a b (All-head (IsFlowValue f) a row one)
      (All-head (IsFlowValue f) b others two) in
      All-cons (IsFlowValue f) ((abstraction_of f.kind).join f.width a b) (joined_rows f row others) join.value
      (joined_values row others (All-tail (IsFlowValue f) a row one) (All-tail (IsFlowValue f) b others two))

  pub joined_row : (row others : FlowRow) → IsFlowRow f row → IsFlowRow f others → IsFlowRow f
      (joined_rows f row others)
  joined_row row others one two = record {
    counted = length-joined_rows f row others ∙ one.counted;
    values = joined_values row others one.values two.values;
  }

  -- the join of two entries is an entry
  pub joined_entry : (e s : Entry) → IsFlowEntry f e → IsFlowEntry f s → IsFlowEntry f (joined_entries f e s)
  joined_entry None s one two = two
  joined_entry (Some a) None one two = one
  joined_entry (Some a) (Some b) one two = joined_row a b one two

  -- and so is the join of many
  pub all_joined_entry : (e : Entry) (steps : List Entry) → IsFlowEntry f e → All (IsFlowEntry f) steps →
      IsFlowEntry f (all_joined f e steps)
  all_joined_entry e [] one all = one
  all_joined_entry e (s ∷ steps) one all =
      all_joined_entry (joined_entries f e s) steps (joined_entry e s one (All-head (IsFlowEntry f) s steps all))
      (All-tail (IsFlowEntry f) s steps all)

-- ---- operations

module _ (f : Flow) (o : Operation) (from : List ℕ) (row : FlowRow) (is : IsFlowRow f row) (can : CanApply f o from)
  where
    inputs_are_values : All (IsFlowValue f) (at [] row from)
    inputs_are_values =
        All-map (IsFlowValue f) (λ i. get_or row i []) from
        (λ k d below. is.values (get_or from k d) [] (omega (arith, is.counted, can.places k d below)))

    -- what an operation is applied to
    pub are_inputs : AreInputs (question_of o.problem) (at [] row from)
    are_inputs =
        let inputs = at [] row from in
        record {
          counted = length-map from (λ i. get_or row i []) ∙ can.counted;
          values =
              subst (λ (k : Kind). All (IsAbstract (meaning_of k) o.problem.width) inputs) (sym can.kind)
              (subst (λ (w : ℕ). All (IsAbstract (meaning_of f.kind) w) inputs) (sym can.width) inputs_are_values);
        }

    -- its inputs stand one after another
    pub inputs_cut : IsFieldRow o.problem (concat (at [] row from))
        × (inputs_of o.problem (concat (at [] row from)) ≡ at [] row from)
    inputs_cut = inputs_are_cut o.problem (at [] row from) are_inputs

    -- its result is a tuple of the flow's domain
    pub result_tuple : IsTuple f.width (fields_of f.kind) (results (question_of o.problem) o.terms (at [] row from))
    result_tuple =
        let p = o.problem in
        let raw = results (question_of p) o.terms (at [] row from) in
        let cut = inputs_cut in
        let whole = results_are_tuples p can.problem.formed o.terms (concat (at [] row from)) can.transformer cut.0 in
        let tuple : IsTuple p.width (fields_of p.kind) raw =
        subst (λ (r : List (List ℕ)). IsTuple p.width (fields_of p.kind) (results (question_of p) o.terms r))
        cut.1 whole in
        subst (λ (k : Kind). IsTuple f.width (fields_of k) raw) can.kind
        (subst (λ (w : ℕ). IsTuple w (fields_of p.kind) raw) can.width tuple)

-- ---- steps

tidied_entry : (f : Flow) (row : FlowRow) (a : ℕ) (None' : Type 0) (More : List ℕ → Type 0) (t : Option (List ℕ)) →
    IsFlowRow f row → MatchOption t None' (λ v. IsFlowValue f v × More v) → IsFlowEntry f
    (option_map (slice_set row a) t)
tidied_entry f row a None' More None is h = tt
tidied_entry f row a None' More (Some v) is h = set_row f row a v is h.0

module _ (f : Flow) (operations : List Operation) (are : AreOperations f operations) where
  -- an operation that an action applies
  pub can_apply : (i a : ℕ) (from : List ℕ) (o : Operation) → CanAct f operations (Apply i a from) →
      slice_get operations i ≡ Some o → CanApply f o from
  can_apply i a from o act here =
      let is = are.each i o here in
      record {
        problem = is.problem;
        transformer = is.transformer;
        width = is.fits.width;
        kind = is.fits.kind;
        counted = act.applies i o here refl;
        places = act.named.3;
      }

  abbrev After : Action → FlowRow → Type 0
  After action row = IsFlowEntry f (stepped f operations action row)

  -- what an action makes of a row
  pub stepped_entry : (action : Action) (row : FlowRow) → CanAct f operations action → IsFlowRow f row → After action
      row
  stepped_entry Skip row act is = is
  stepped_entry (Any a) row act is =
      set_row f row a ((abstraction_of f.kind).top f.width) is ((laws_of f.kind).has_top f.width are.flow.width).0
  stepped_entry (Set a c) row act is =
      set_row f row a ((abstraction_of f.kind).of_word f.width c) is
      ((laws_of f.kind).holds_words f.width are.flow.width c act.named.1).0
  stepped_entry (Copy a b) row act is =
      set_row f row a (get_or row b []) is (is.values b [] (omega (arith, is.counted, act.named.1)))
  stepped_entry (Apply i a from) row act is =
      let o = found operations i act.named.0 in
      let can = can_apply i a from o.0 act o.1 in
      let raw = results (question_of o.0.problem) o.0.terms (at [] row from) in
      let tidied = (laws_of f.kind).tidies f.width are.flow.width raw (result_tuple f o.0 from row is can) in
      subst (λ (r : Option Operation). IsFlowEntry f (option_map (slice_set row a) (applied f r (at [] row from))))
      (sym o.1)
      (tidied_entry f row a _ _ ((abstraction_of f.kind).tidy f.width raw) is tidied)

  from_entry_entry : (action : Action) (e : Entry) → CanAct f operations action → IsFlowEntry f e →
      IsFlowEntry f (from_entry f operations action e)
  from_entry_entry action None act is = tt
  from_entry_entry action (Some row) act is = stepped_entry action row act is

  -- the edges of a flow can be followed
  pub all_follow : All (CanFollowEdge f operations) f.edges
  all_follow k d below =
      let is = are.flow.edges k d below in
      record {
        from = is.from;
        to = is.to;
        acts = record { named = is.action; applies = λ i o here. (are.each i o here).fits.inputs k d below };
      }

  module _ (state : State) (is : IsState f state) where
    -- the step of an edge is an entry
    pub edge_entry : (e : Edge) → CanFollowEdge f operations e → IsFlowEntry f (edge_step f operations state e)
    edge_entry e can =
        from_entry_entry e.action (entry_at state e.from) can.acts
        (is.entries e.from None (omega (arith, is.counted, can.from)))

    -- the steps of those edges that lead to a node
    pub steps_of : (edges : List Edge) → All (CanFollowEdge f operations) edges → (n : ℕ) →
        All (IsFlowEntry f) (map (edge_step f operations state) (filter (λ (e : Edge). e.to == n) edges))
    steps_of edges can n =
        let Stepped : Edge → Type 0 = λ e. IsFlowEntry f (edge_step f operations state e) in
        let each = All-weaker (CanFollowEdge f operations) Stepped edge_entry edges can in
        All-map (IsFlowEntry f) (edge_step f operations state) (filter (λ (e : Edge). e.to == n) edges)
        (All-filter (λ (e : Edge). e.to == n) Stepped edges each)

    -- the steps of a node's edges
    pub steps_are_entries : (n : ℕ) →
        All (IsFlowEntry f) (map (edge_step f operations state) (filter (λ (e : Edge). e.to == n) f.edges))
    steps_are_entries n = steps_of f.edges all_follow n

    pub entry_after_entry : (n : ℕ) → n < f.nodes → IsFlowEntry f (entry_after f operations state n)
    entry_after_entry n below =
        all_joined_entry f are.flow.width (entry_at state n)
        (map (edge_step f operations state) (filter (λ (e : Edge). e.to == n) f.edges))
        (is.entries n None (omega (arith, is.counted))) (steps_are_entries n)

    entries_from_entries : (n count : ℕ) → n + count ≤ f.nodes →
        All (IsFlowEntry f) (entries_from f operations state n count)
    entries_from_entries n zero within = All-nil (IsFlowEntry f)
    entries_from_entries n (suc count) within =
        All-cons (IsFlowEntry f) (entry_after f operations state n) (entries_from f operations state (suc n) count)
        (entry_after_entry n (omega arith)) (entries_from_entries (suc n) count (omega arith))

  -- ---- rounds

  pub length-entries_from : (state : State) (n count : ℕ) → length (entries_from f operations state n count) ≡ count
  length-entries_from state n zero = refl
  length-entries_from state n (suc count) = ap suc (length-entries_from state (suc n) count)

  -- a round leads from a state to a state
  pub round_state : (state : State) → IsState f state → IsState f (round f operations state)
  round_state state is = record {
    counted = length-entries_from state 0 f.nodes;
    entries = entries_from_entries state is 0 f.nodes (omega arith);
  }

  pub top_row : IsFlowRow f (replicate f.variables ((abstraction_of f.kind).top f.width))
  top_row = record {
    counted = length-replicate f.variables ((abstraction_of f.kind).top f.width);
    values = All-replicate (IsFlowValue f) f.variables ((abstraction_of f.kind).top f.width)
        ((laws_of f.kind).has_top f.width are.flow.width).0;
  }

  -- the first state is one
  pub first_state_state : IsState f (first_state f)
  first_state_state =
      let top = replicate f.variables ((abstraction_of f.kind).top f.width) in
      let others : List Entry = replicate (f.nodes - 1) None in
      record {
        counted = omega (arith, length-replicate {A = Entry} (f.nodes - 1) None, are.flow.nodes.0);
        entries = All-cons (IsFlowEntry f) (Some top) others top_row
            (All-replicate (IsFlowEntry f) (f.nodes - 1) None tt);
      }

  -- all states of an analysis
  pub states_are : (n : ℕ) → IsState f (state_after f operations n)
  states_are zero = first_state_state
  states_are (suc n) = round_state (state_after f operations n) (states_are n)

-- what an operation makes of a row
pub stepped_by : (f : Flow) (operations : List Operation) (action : Action) (row : FlowRow) (i a : ℕ) (from : List ℕ)
    (o : Operation) (t : Option (List ℕ)) → action ≡ Apply i a from → slice_get operations i ≡ Some o →
    t ≡ applied f (Some o) (at [] row from) → option_map (slice_set row a) t ≡ stepped f operations action row
stepped_by f operations action row i a from o t is here e =
    ap (option_map (slice_set row a)) e
    ∙ ap (λ (r : Option Operation). option_map (slice_set row a) (applied f r (at [] row from))) (sym here)
    ∙ ap (λ (b : Action). stepped f operations b row) (sym is)

-- the fields of values at places, one after another
pub concat-at : (row : FlowRow) (places : List ℕ) → concat (at [] row places) ≡ flat_map (λ b. get_or row b []) places
concat-at row [] = refl
concat-at row (b ∷ places) = ap (λ (cs : List ℕ). get_or row b [] ++ cs) (concat-at row places)
