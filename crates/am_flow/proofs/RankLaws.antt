-- The rank of a state falls with each round that changes it.
use Rattle.std.proofs.Common.{◌≡◌, ◌≢◌, ℕ, zero, suc, ◌+◌, ◌*◌, ◌^◌, ◌<◌, ◌≤◌, List, [], ◌∷◌, get_or, length, map, refl}
use Rattle.std.proofs.Common.{sym, ap, ◌∙◌, subst, inl, inr, arith, bytes_eq, mul_assoc}
use Rattle.std.specs.Prelude.{◌⊎◌, All, None, Some, filter, sum_by, ◌==◌}
use Rattle.std.proofs.lemmas.Bool.{both_ways, cases_Bool}
use Rattle.std.proofs.lemmas.List.Elements.{All-head, All-tail}
use Rattle.std.proofs.lemmas.List.Sums.{sum_by-cons, sum_by-le}
use Rattle.std.proofs.lemmas.Slice.Eq.{bytes_eq-Decides}
use Rattle.am_bv.specs.Words.{IsWidth}
use Rattle.am_problem.specs.Kinds.{abstraction_of, fields_of}
use Rattle.am_problem.specs.lemmas.KindLaws.{laws_of}
use Rattle.am_flow.specs.declared.flow.Edge.{Edge}
use Rattle.am_flow.specs.Flows.{AreOperations, Flow, Operation}
use Rattle.am_flow.specs.States.{Entry, FlowRow, IsTable, State, all_joined, edge_step, entries_from, entry_after}
use Rattle.am_flow.specs.States.{entry_at}
use Rattle.am_flow.specs.States.{first_state, joined_entries, joined_rows, round}
use Rattle.am_flow.specs.inside.Ranks.{IsReachedState, entry_rank, most_rank, most_rounds, row_rank, state_rank}
use Rattle.am_flow.specs.inside.Rows.{IsFlowEntry, IsFlowRow, IsState}
use Rattle.am_flow.proofs.RowLaws.{IsFlowValue, joined_entry, first_state_state, states_are, steps_are_entries}

-- the new one is the old one, or measures less
abbrev pub SameOrLess : {A : Type 0} → (A → ℕ) → A → A → Type 0
SameOrLess measure old new = (new ≡ old) ⊎ (measure new < measure old)

less_on : {A : Type 0} (measure : A → ℕ) (a b c : A) → SameOrLess measure a b → SameOrLess measure b c →
    SameOrLess measure a c
less_on measure a b c (inl same) (inl also) = inl (also ∙ same)
less_on measure a b c (inl same) (inr less) = inr (omega (arith, less, ap measure same))
less_on measure a b c (inr less) (inl also) = inr (omega (arith, less, ap measure also))
less_on measure a b c (inr less) (inr more) = inr (omega (arith, less, more))

-- lists of which each item is the same or measures less
less_cons : {A : Type 0} (measure : A → ℕ) (x y : A) (xs ys : List A) → SameOrLess measure x y →
    SameOrLess (sum_by measure) xs ys → SameOrLess (sum_by measure) (x ∷ xs) (y ∷ ys)
less_cons {A = A} measure x y xs ys (inl same) (inl also) =
    inl (ap (λ (z : A). z ∷ ys) same ∙ ap (λ (zs : List A). x ∷ zs) also)
less_cons measure x y xs ys (inl same) (inr less) =
    inr (omega (arith, less, ap measure same, sum_by-cons measure x xs, sum_by-cons measure y ys))
less_cons measure x y xs ys (inr less) (inl also) =
    inr (omega (arith, less, ap (sum_by measure) also, sum_by-cons measure x xs, sum_by-cons measure y ys))
less_cons measure x y xs ys (inr less) (inr more) =
    inr (omega (arith, less, more, sum_by-cons measure x xs, sum_by-cons measure y ys))

module _ (f : Flow) (width : IsWidth f.width) where
  -- ---- rows and entries

  join_falls : (a b : List ℕ) → IsFlowValue f a → IsFlowValue f b →
      SameOrLess ((abstraction_of f.kind).rank f.width) a ((abstraction_of f.kind).join f.width a b)
  join_falls a b one two =
      let join = (abstraction_of f.kind).join f.width a b in
      elim (cases_Bool (bytes_eq join a)) [
        | inl same ↦ inl ((bytes_eq-Decides join a).0 same)
        | inr other ↦ inr ((laws_of f.kind).descends.falls f.width width a b one two
            (λ e. both_ways (bytes_eq join a) other ((bytes_eq-Decides join a).1 e)))
      ]

  rows_fall : (row others : FlowRow) → All (IsFlowValue f) row → All (IsFlowValue f) others →
      SameOrLess (row_rank f) row (joined_rows f row others)
  rows_fall [] others one two = inl refl
  rows_fall (a ∷ row) [] one two = inl refl
  rows_fall (a ∷ row) (b ∷ others) one two =
      less_cons ((abstraction_of f.kind).rank f.width) a ((abstraction_of f.kind).join f.width a b) row
      (joined_rows f row others)
      (join_falls a b (All-head (IsFlowValue f) a row one) (All-head (IsFlowValue f) b others two))
      (rows_fall row others (All-tail (IsFlowValue f) a row one) (All-tail (IsFlowValue f) b others two))

  row_rank_most : (row : FlowRow) → IsFlowRow f row → row_rank f row ≤ most_rank f
  row_rank_most row is =
      let most = fields_of f.kind * 2 ^ f.width in
      let each : All (λ a. (abstraction_of f.kind).rank f.width a ≤ most) row =
      λ k d below. (laws_of f.kind).descends.most f.width width (get_or row k d) (is.values k d below) in
      let sum : row_rank f row ≤ length row * most = sum_by-le ((abstraction_of f.kind).rank f.width) most row each in
      let many : length row * most ≡ most_rank f =
      ap (λ n. n * most) is.counted ∙ sym (mul_assoc f.variables (fields_of f.kind) (2 ^ f.width)) in
      omega (arith, sum, many)

  entry_falls : (e s : Entry) → IsFlowEntry f e → IsFlowEntry f s → SameOrLess (entry_rank f) e (joined_entries f e s)
  entry_falls None None one two = inl refl
  entry_falls None (Some b) one two = inr (omega (arith, row_rank_most b two))
  entry_falls (Some a) None one two = inl refl
  entry_falls (Some a) (Some b) one two =
      elim (rows_fall a b one.values two.values) [ inl same ↦ inl (ap Some same) | inr less ↦ inr less ]

  all_fall : (e : Entry) (steps : List Entry) → IsFlowEntry f e → All (IsFlowEntry f) steps →
      SameOrLess (entry_rank f) e (all_joined f e steps)
  all_fall e [] one all = inl refl
  all_fall e (s ∷ steps) one all =
      let two = All-head (IsFlowEntry f) s steps all in
      less_on (entry_rank f) e (joined_entries f e s) (all_joined f (joined_entries f e s) steps)
      (entry_falls e s one two)
      (all_fall (joined_entries f e s) steps (joined_entry f width e s one two) (All-tail (IsFlowEntry f) s steps all))

  entry_rank_most : (e : Entry) → IsFlowEntry f e → entry_rank f e ≤ most_rank f + 1
  entry_rank_most None is = omega arith
  entry_rank_most (Some row) is = omega (arith, row_rank_most row is)

  pub state_rank_most : (state : State) → IsState f state → state_rank f state ≤ most_rounds f
  state_rank_most state is =
      let each : All (λ e. entry_rank f e ≤ most_rank f + 1) state =
      λ k d below. entry_rank_most (get_or state k d) (is.entries k d below) in
      let sum : state_rank f state ≤ length state * (most_rank f + 1) =
      sum_by-le (entry_rank f) (most_rank f + 1) state each in
      let many : length state * (most_rank f + 1) ≡ most_rounds f = ap (λ n. n * (most_rank f + 1)) is.counted in
      omega (arith, sum, many)

-- ---- rounds

module _ (f : Flow) (operations : List Operation) (are : AreOperations f operations) (state : State)
    (is : IsState f state) where
  entry_after_falls : (n : ℕ) → n < f.nodes →
      SameOrLess (entry_rank f) (entry_at state n) (entry_after f operations state n)
  entry_after_falls n below =
      all_fall f are.flow.width (entry_at state n)
      (map (edge_step f operations state) (filter (λ (e : Edge). e.to == n) f.edges))
      (is.entries n None (omega (arith, is.counted))) (steps_are_entries f operations are state is n)

  -- the entries from a node on
  entries_fall : (n count : ℕ) (entries : List Entry) → n + count ≤ f.nodes → length entries ≡ count →
      ((k : ℕ) → k < count → get_or entries k None ≡ entry_at state (n + k)) →
      SameOrLess (state_rank f) entries (entries_from f operations state n count)
  entries_fall n zero [] within many same = inl refl
  entries_fall n zero (e ∷ entries) within many same = absurd (omega (arith, many))
  entries_fall n (suc count) [] within many same = absurd (omega (arith, many))
  entries_fall n (suc count) (e ∷ entries) within many same =
      let here : e ≡ entry_at state n =
      same 0 (omega arith) ∙ ap (entry_at state) (let z : n + 0 ≡ n = omega arith in z) in
      let falls : SameOrLess (entry_rank f) e (entry_after f operations state n) =
      subst (λ (x : Entry). SameOrLess (entry_rank f) x (entry_after f operations state n)) (sym here)
      (entry_after_falls n (omega arith)) in
      less_cons (entry_rank f) e (entry_after f operations state n) entries
      (entries_from f operations state (suc n) count)
      falls
      (entries_fall (suc n) count entries (omega arith) (omega (arith, many))
      (λ k below. same (suc k) (omega arith) ∙ ap (entry_at state) (let z : n + suc k ≡ suc n + k = omega arith in z)))

  pub round_falls : SameOrLess (state_rank f) state (round f operations state)
  round_falls =
      entries_fall 0 f.nodes state (omega arith) is.counted
      (λ k below. ap (entry_at state) (let z : k ≡ 0 + k = omega arith in z))

module _ (f : Flow) (operations : List Operation) (are : AreOperations f operations) where
  -- the first state is reached
  pub first_reached : (state : State) → state ≡ first_state f → IsReachedState f operations state
  first_reached state e = record {
    rounds = 0;
    reached = e;
    few =
        let most = state_rank_most f are.flow.width (first_state f) (first_state_state f operations are) in
        omega (arith, most, ap (state_rank f) e);
  }

  -- a state that is reached is one
  pub reached_state : (state : State) → IsReachedState f operations state → IsState f state
  reached_state state r = subst (IsState f) (sym r.reached) (states_are f operations are r.rounds)

  -- a round that changes a state lowers its rank
  pub rank_falls : (state next : State) → IsReachedState f operations state → next ≡ round f operations state →
      next ≢ state → state_rank f next < state_rank f state
  rank_falls state next r e other =
      elim (round_falls f operations are state (reached_state state r)) [
        | inl same ↦ absurd (other (e ∙ same))
        | inr less ↦ omega (arith, less, ap (state_rank f) e)
      ]

  -- a round that changes a state is one of the few
  pub next_reached : (state next : State) → IsReachedState f operations state → next ≡ round f operations state →
      next ≢ state → IsReachedState f operations next
  next_reached state next r e other = record {
    rounds = suc r.rounds;
    reached = e ∙ ap (round f operations) r.reached;
    few = omega (arith, r.few, rank_falls state next r e other);
  }

  -- a state that is reached and stays is the table
  pub stays_table : (state next : State) → IsReachedState f operations state → next ≡ round f operations state →
      next ≡ state → IsTable f operations state
  stays_table state next r e same =
      record { rounds = r.rounds; reached = r.reached; stays = sym e ∙ same; few = omega (arith, r.few) }
