-- A loop that joins the step of one edge after another gives the state after a round.
use Rattle.std.proofs.Common.{◌≡◌, ℕ, zero, suc, ◌+◌, ◌<◌, ◌≤◌, Bool, true, false, cond, List, [], ◌∷◌, ◌++◌, get_or}
use Rattle.std.proofs.Common.{length, map, take, refl, sym, ap, ◌∙◌, subst, inl, inr, arith, append-nil}
use Rattle.std.specs.Prelude.{All, None, Some, filter, slice_set, ◌==◌}
use Rattle.std.proofs.lemmas.Bool.{cases_eq, eq-eqb, ne_eqb}
use Rattle.std.proofs.lemmas.List.{get_or-set_other, get_or-set_same, length-set, map-append, take_all}
use Rattle.std.proofs.lemmas.List.Elements.{All-from_get_or, All-take, filter_more}
use Rattle.am_flow.specs.declared.flow.Edge.{Edge}
use Rattle.am_flow.specs.Flows.{AreOperations, Flow, Operation}
use Rattle.am_flow.specs.States.{Entry, State, all_joined, edge_step, entries_from, entry_after, entry_at}
use Rattle.am_flow.specs.States.{joined_entries}
use Rattle.am_flow.specs.States.{round}
use Rattle.am_flow.specs.inside.Rows.{IsFlowEntry, IsState}
use Rattle.am_flow.specs.inside.Steps.{CanFollowEdge, JoinsStep}
use Rattle.am_flow.proofs.RowLaws.{all_follow, all_joined_entry, steps_of}

all_joined-push : (f : Flow) (e : Entry) (steps : List Entry) (s : Entry) →
    all_joined f e (steps ++ s ∷ []) ≡ joined_entries f (all_joined f e steps) s
all_joined-push f e [] s = refl
all_joined-push f e (t ∷ steps) s = all_joined-push f (joined_entries f e t) steps s

-- a join with nothing changes nothing
pub joined-None : (f : Flow) (e : Entry) → joined_entries f e None ≡ e
joined-None f None = refl
joined-None f (Some a) = refl

module _ (f : Flow) (operations : List Operation) (before : State) where
  -- the entry of a node after the steps of these edges
  abbrev pub entry_by : List Edge → ℕ → Entry
  entry_by edges n =
      all_joined f (entry_at before n)
      (map (edge_step f operations before) (filter (λ (e : Edge). e.to == n) edges))

  -- a state with these entries
  pub record IsAfter (edges : List Edge) (state : State) : Type 0 where
    pub counted : length state ≡ f.nodes
    pub entries : (n : ℕ) → n < f.nodes → entry_at state n ≡ entry_by edges n

  entry_by-push : (edges : List Edge) (e : Edge) (n : ℕ) (b : Bool) → (e.to == n) ≡ b →
      all_joined f (entry_at before n) (map (edge_step f operations before)
      (filter (λ (e : Edge). e.to == n) edges ++ cond (e.to == n) (e ∷ []) []))
      ≡ cond b (joined_entries f (entry_by edges n) (edge_step f operations before e)) (entry_by edges n)
  entry_by-push edges e n true h =
      let kept = filter (λ (e : Edge). e.to == n) edges in
      let step = edge_step f operations before in
      ap (λ b. all_joined f (entry_at before n) (map step (kept ++ cond b (e ∷ []) []))) h
      ∙ ap (all_joined f (entry_at before n)) (map-append step kept (e ∷ []))
      ∙ all_joined-push f (entry_at before n) (map step kept) (step e)
  entry_by-push edges e n false h =
      let kept = filter (λ (e : Edge). e.to == n) edges in
      let step = edge_step f operations before in
      ap (λ b. all_joined f (entry_at before n) (map step (kept ++ cond b (e ∷ []) []))) h
      ∙ ap (λ (es : List Edge). all_joined f (entry_at before n) (map step es)) (append-nil kept)

  entry_by-more : (edges : List Edge) (i : ℕ) (e : Edge) (n : ℕ) (b : Bool) → i < length edges → e ≡ get_or edges i e →
      (e.to == n) ≡ b →
      entry_by (take (i + 1) edges) n
      ≡ cond b (joined_entries f (entry_by (take i edges) n) (edge_step f operations before e))
      (entry_by (take i edges) n)
  entry_by-more edges i e n b below here h =
      let test : Edge → Bool = λ (e : Edge). e.to == n in
      let one : List Edge → List Edge = λ rest. filter test (take i edges) ++ rest in
      ap (λ (es : List Edge). all_joined f (entry_at before n) (map (edge_step f operations before) es))
      (filter_more test edges i e below
      ∙ ap (λ (x : Edge). one (cond (test x) (x ∷ []) [])) (sym here))
      ∙ entry_by-push (take i edges) e n b h

  -- before the first edge
  pub after_none : (edges : List Edge) (state : State) → IsState f before → state ≡ before →
      IsAfter (take 0 edges) state
  after_none edges state is e = record {
    counted = ap length e ∙ is.counted;
    entries = λ n below. ap (λ (s : State). entry_at s n) e;
  }

  -- where nothing gets along an edge, a state stays
  pub joins_nothing : (e : Edge) (state : State) → edge_step f operations before e ≡ None →
      JoinsStep f operations before e state state
  joins_nothing e state nothing = record {
    counted = refl;
    there = sym (ap (joined_entries f (entry_at state e.to)) nothing ∙ joined-None f (entry_at state e.to));
    others = λ n other. refl;
  }

  -- the entry of the edge's end is joined with the step
  pub joins_there : (e : Edge) (state : State) (entry : Entry) → e.to < length state →
      entry ≡ joined_entries f (entry_at state e.to) (edge_step f operations before e) →
      JoinsStep f operations before e state (slice_set state e.to entry)
  joins_there e state entry place is = record {
    counted = length-set state e.to entry;
    there = get_or-set_same state e.to entry None place ∙ is;
    others = λ n other. get_or-set_other state e.to n entry None other;
  }

  -- one more edge
  pub after_more : (edges : List Edge) (i : ℕ) (e : Edge) (old new : State) → i < length edges →
      e ≡ get_or edges i e → e.to < f.nodes → IsAfter (take i edges) old → JoinsStep f operations before e old new →
      IsAfter (take (i + 1) edges) new
  after_more edges i e old new below here to is step = record {
    counted = step.counted ∙ is.counted;
    entries = λ n within. elim (cases_eq e.to n) [
      | inl same ↦
          ap (entry_at new) (sym same)
          ∙ step.there
          ∙ ap (λ (x : Entry). joined_entries f x (edge_step f operations before e))
          (is.entries e.to to ∙ ap (entry_by (take i edges)) same)
          ∙ sym (entry_by-more edges i e n true below here (eq-eqb e.to n same))
      | inr other ↦
          step.others n (λ same. other (sym same))
          ∙ is.entries n within
          ∙ sym (entry_by-more edges i e n false below here (ne_eqb e.to n other))
    ];
  }

  -- entries at all nodes from one on
  same_from : (n count : ℕ) (entries : List Entry) → length entries ≡ count →
      ((k : ℕ) → k < count → get_or entries k None ≡ entry_after f operations before (n + k)) →
      entries ≡ entries_from f operations before n count
  same_from n zero [] many same = refl
  same_from n zero (e ∷ entries) many same = absurd (omega (arith, many))
  same_from n (suc count) [] many same = absurd (omega (arith, many))
  same_from n (suc count) (e ∷ entries) many same =
      let after = entry_after f operations before in
      let here : e ≡ after n = same 0 (omega arith) ∙ ap after (let z : n + 0 ≡ n = omega arith in z) in
      let rest = same_from (suc n) count entries (omega (arith, many))
      (λ k below. same (suc k) (omega arith) ∙ ap after (let z : n + suc k ≡ suc n + k = omega arith in z)) in
      ap (λ (x : Entry). x ∷ entries) here ∙ ap (λ (xs : List Entry). after n ∷ xs) rest

  -- after the last edge
  pub after_all : (i : ℕ) (state : State) → length f.edges ≤ i → IsAfter (take i f.edges) state →
      state ≡ round f operations before
  after_all i state past is =
      let whole = take_all i f.edges past in
      same_from 0 f.nodes state is.counted (λ k below.
      is.entries k below ∙ ap (λ (es : List Edge). entry_by es k) whole
      ∙ ap (entry_after f operations before) (let z : k ≡ 0 + k = omega arith in z))

-- each of these states is one
pub after_state : (f : Flow) (operations : List Operation) (are : AreOperations f operations) (before : State)
    (edges : List Edge) (i : ℕ) (state : State) → IsState f before → edges ≡ f.edges →
    IsAfter f operations before (take i edges) state → IsState f state
after_state f operations are before edges i state is e after =
    let can = All-take (CanFollowEdge f operations) i edges
    (subst (All (CanFollowEdge f operations)) (sym e) (all_follow f operations are)) in
    record {
      counted = after.counted;
      entries = All-from_get_or (IsFlowEntry f) state None (λ n below.
          let within : n < f.nodes = omega (arith, below, after.counted) in
          subst (IsFlowEntry f) (sym (after.entries n within))
          (all_joined_entry f are.flow.width (entry_at before n)
          (map (edge_step f operations before) (filter (λ (e : Edge). e.to == n) (take i edges)))
          (is.entries n None (omega (arith, within, is.counted)))
          (steps_of f operations are before is (take i edges) can n)));
    }

-- the entry of a node in the state after a round
pub round-at : (f : Flow) (operations : List Operation) (state : State) (n count k : ℕ) → k < count →
    entry_at (entries_from f operations state n count) k ≡ entry_after f operations state (n + k)
round-at f operations state n zero k below = absurd (omega arith)
round-at f operations state n (suc count) zero below =
    ap (entry_after f operations state) (let z : n ≡ n + 0 = omega arith in z)
round-at f operations state n (suc count) (suc k) below =
    round-at f operations state (suc n) count k (omega arith)
    ∙ ap (entry_after f operations state) (let z : suc n + k ≡ n + suc k = omega arith in z)
