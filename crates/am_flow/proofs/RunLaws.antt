-- The table of a flow with sound transformers covers its runs.
use Rattle.std.proofs.Common.{◌≡◌, ℕ, zero, suc, ◌+◌, ◌^◌, ◌<◌, Bool, cond, List, [], ◌∷◌, get_or}
use Rattle.std.proofs.Common.{length, map, replicate, sym, ap, ◌∙◌, subst, inl, inr, arith}
use Rattle.std.specs.Prelude.{All, Contains, MatchOption, Option, None, Some, filter, slice_get, slice_set, ◌==◌}
use Rattle.std.specs.List.{AllZip}
use Rattle.std.specs.Option.{option_map}
use Rattle.std.proofs.lemmas.Bool.{cases_Bool, eq-eqb}
use Rattle.std.proofs.lemmas.List.{length-set}
use Rattle.std.proofs.lemmas.List.Elements.{All-contains, All-head, All-tail}
use Rattle.std.proofs.lemmas.Option.{get_or_from_slice_get}
use Rattle.am_bv.specs.Words.{AreWords, IsWidth}
use Rattle.am_domain.proofs.Laws.{AreWords-cons}
use Rattle.am_domain.specs.Question.{AreMembers, IsMember, results}
use Rattle.am_domain.specs.Tuple.{IsTuple}
use Rattle.am_problem.proofs.Laws.{members_are_words, operations_give_words}
use Rattle.am_problem.specs.Kinds.{abstraction_of, meaning_of}
use Rattle.am_problem.specs.Problem.{question_of}
use Rattle.am_problem.specs.declared.kind.Kind.{Kind}
use Rattle.am_problem.specs.lemmas.KindLaws.{laws_of}
use Rattle.am_flow.specs.declared.flow.Action.{Action}
use Rattle.am_flow.specs.declared.flow.Action.TheVariants.{Any, Apply, Copy, Set, Skip}
use Rattle.am_flow.specs.declared.flow.Edge.{Edge}
use Rattle.am_flow.specs.Flows.{AreOperations, Flow, Operation}
use Rattle.am_flow.specs.Runs.{AllSound, Applies, HasVariableWords, IsRun, Moves, Point, TablesCoverRuns}
use Rattle.am_flow.specs.States.{Entry, FlowRow, IsTable, State, all_joined, applied, at, edge_step, entry_after}
use Rattle.am_flow.specs.States.{entry_at}
use Rattle.am_flow.specs.States.{from_entry, joined_entries, joined_rows, round, state_after, stepped}
use Rattle.am_flow.specs.inside.Rows.{IsFlowEntry, IsFlowRow, IsState}
use Rattle.am_flow.specs.inside.Steps.{CanAct, CanApply, CanFollowEdge}
use Rattle.am_flow.proofs.RowLaws.{IsFlowValue, all_follow, are_inputs, can_apply, edge_entry, found, joined_entry}
use Rattle.am_flow.proofs.RowLaws.{result_tuple, states_are, steps_of}
use Rattle.am_flow.proofs.RoundLaws.{round-at}

-- ---- words of variables

-- related lists with related items at a place
zip_set : {A B : Type 0} (R : A → B → Type 0) (xs : List A) (ys : List B) (i : ℕ) (x : A) (y : B) → AllZip R xs ys →
    R x y → AllZip R (slice_set xs i x) (slice_set ys i y)
zip_set R [] [] i x y all one = tt
zip_set R [] (d ∷ ys) i x y all one = absurd all
zip_set R (c ∷ xs) [] i x y all one = absurd all
zip_set R (c ∷ xs) (d ∷ ys) zero x y all one = (one, all.1)
zip_set R (c ∷ xs) (d ∷ ys) (suc i) x y all one = (all.0, zip_set R xs ys i x y all.1 one)

zip_at : {A B : Type 0} (R : A → B → Type 0) (xs : List A) (ys : List B) (i : ℕ) (c : A) (d : B) → AllZip R xs ys →
    i < length xs → R (get_or xs i c) (get_or ys i d)
zip_at R [] [] i c d all below = absurd (omega arith)
zip_at R [] (y ∷ ys) i c d all below = absurd all
zip_at R (x ∷ xs) [] i c d all below = absurd all
zip_at R (x ∷ xs) (y ∷ ys) zero c d all below = all.0
zip_at R (x ∷ xs) (y ∷ ys) (suc i) c d all below = zip_at R xs ys i c d all.1 (omega arith)

set_words : (w : ℕ) (words : List ℕ) (a c : ℕ) → c < 2 ^ w → AreWords w words → AreWords w (slice_set words a c)
set_words w [] a c one are = are
set_words w (d ∷ words) zero c one are = AreWords-cons w c words one (λ i. are (suc i))
set_words w (d ∷ words) (suc a) c one are =
    AreWords-cons w d (slice_set words a c) (are 0) (set_words w words a c one (λ i. are (suc i)))

-- a word for each variable
abbrev AreWordsOf : Flow → List ℕ → Type 0
AreWordsOf f words = IsTuple f.width f.variables words

set_tuple : (f : Flow) (words : List ℕ) (a c : ℕ) → c < 2 ^ f.width → AreWordsOf f words →
    AreWordsOf f (slice_set words a c)
set_tuple f words a c one is =
    record { counted = length-set words a c ∙ is.counted; words = set_words f.width words a c one is.words }

abbrev IsMemberOf : Flow → List ℕ → ℕ → Type 0
IsMemberOf f a c = (meaning_of f.kind).Member f.width a c

-- top has all words
top_zip : (f : Flow) → IsWidth f.width → (n : ℕ) (words : List ℕ) → length words ≡ n → AreWords f.width words →
    AllZip (IsMemberOf f) (replicate n ((abstraction_of f.kind).top f.width)) words
top_zip f width zero [] many are = tt
top_zip f width zero (c ∷ words) many are = absurd (omega (arith, many))
top_zip f width (suc n) [] many are = absurd (omega (arith, many))
top_zip f width (suc n) (c ∷ words) many are = (
  ((laws_of f.kind).has_top f.width width).1 c (are 0),
  top_zip f width n words (omega (arith, many)) (λ i. are (suc i)),
)

-- ---- joins

module _ (f : Flow) (width : IsWidth f.width) where
  rows_first : (row others : FlowRow) (words : List ℕ) → All (IsFlowValue f) row → All (IsFlowValue f) others →
      AreWords f.width words → AllZip (IsMemberOf f) row words → AllZip (IsMemberOf f) (joined_rows f row others) words
  rows_first [] others words one two are all = all
  rows_first (a ∷ row) [] words one two are all = all
  rows_first (a ∷ row) (b ∷ others) [] one two are all = absurd all
  rows_first (a ∷ row) (b ∷ others) (c ∷ words) one two are all =
      let join = (laws_of f.kind).joins_above f.width width a b (All-head (IsFlowValue f) a row one)
      (All-head (IsFlowValue f) b others two) in (
        join.first c (are 0) all.0,
        rows_first row others words (All-tail (IsFlowValue f) a row one) (All-tail (IsFlowValue f) b others two)
            (λ i. are (suc i)) all.1,
      )

  rows_second : (row others : FlowRow) (words : List ℕ) → length row ≡ length others → All (IsFlowValue f) row →
      All (IsFlowValue f) others → AreWords f.width words → AllZip (IsMemberOf f) others words →
      AllZip (IsMemberOf f) (joined_rows f row others) words
  rows_second [] [] words many one two are all = all
  rows_second [] (b ∷ others) words many one two are all = absurd (omega (arith, many))
  rows_second (a ∷ row) [] words many one two are all = absurd (omega (arith, many))
  rows_second (a ∷ row) (b ∷ others) [] many one two are all = absurd all
  rows_second (a ∷ row) (b ∷ others) (c ∷ words) many one two are all =
      let join = (laws_of f.kind).joins_above f.width width a b (All-head (IsFlowValue f) a row one)
      (All-head (IsFlowValue f) b others two) in (
        join.second c (are 0) all.0,
        rows_second row others words (omega (arith, many)) (All-tail (IsFlowValue f) a row one)
            (All-tail (IsFlowValue f) b others two) (λ i. are (suc i)) all.1,
      )

  module _ (words : List ℕ) (are : AreWords f.width words) where
    -- a join has the words of both
    joined_first : (e s : Entry) → IsFlowEntry f e → IsFlowEntry f s → HasVariableWords f e words → HasVariableWords f
        (joined_entries f e s) words
    joined_first None s one two has = absurd has
    joined_first (Some a) None one two has = has
    joined_first (Some a) (Some b) one two has = rows_first a b words one.values two.values are has

    joined_second : (e s : Entry) → IsFlowEntry f e → IsFlowEntry f s → HasVariableWords f s words → HasVariableWords f
        (joined_entries f e s) words
    joined_second None s one two has = has
    joined_second (Some a) None one two has = absurd has
    joined_second (Some a) (Some b) one two has =
        rows_second a b words (one.counted ∙ sym two.counted) one.values two.values are has

    all_first : (e : Entry) (steps : List Entry) → IsFlowEntry f e → All (IsFlowEntry f) steps → HasVariableWords f e
        words →
        HasVariableWords f (all_joined f e steps) words
    all_first e [] one all has = has
    all_first e (s ∷ steps) one all has =
        let two = All-head (IsFlowEntry f) s steps all in
        all_first (joined_entries f e s) steps (joined_entry f width e s one two) (All-tail (IsFlowEntry f) s steps all)
        (joined_first e s one two has)

-- ---- rounds

module _ (f : Flow) (operations : List Operation) (are : AreOperations f operations) (state : State)
    (is : IsState f state) (words : List ℕ) (all_words : AreWords f.width words) (n : ℕ) where
  abbrev step : Edge → Entry
  step = edge_step f operations state

  abbrev goes_in : Edge → Bool
  goes_in = λ (e : Edge). e.to == n

  abbrev After : Entry → List Edge → Type 0
  After e edges = HasVariableWords f (all_joined f e (map step edges)) words

  -- what the step of an edge has is kept by the edges after it
  edges_keep : (e : Entry) (edges : List Edge) → IsFlowEntry f e → All (CanFollowEdge f operations) edges →
      HasVariableWords f e words →
      After e (filter goes_in edges)
  edges_keep e edges one can has =
      all_first f are.flow.width words all_words e (map step (filter goes_in edges)) one
      (steps_of f operations are state is edges can n) has

  -- what the step of an edge to the node has, the node has after a round
  edges_have : (e : Entry) (edges : List Edge) (k : ℕ) (d : Edge) → IsFlowEntry f e → All (CanFollowEdge f operations)
      edges →
      k < length edges → (get_or edges k d).to ≡ n → HasVariableWords f (step (get_or edges k d)) words →
      After e (filter goes_in edges)
  edges_have e [] k d one can below to has = absurd (omega arith)
  edges_have e (x ∷ edges) zero d one can below to has =
      let here = All-head (CanFollowEdge f operations) x edges can in
      let two = edge_entry f operations are state is x here in
      subst (λ (b : Bool). After e (cond b (x ∷ filter goes_in edges) (filter goes_in edges))) (sym (eq-eqb x.to n to))
      (edges_keep (joined_entries f e (step x)) edges (joined_entry f are.flow.width e (step x) one two)
      (All-tail (CanFollowEdge f operations) x edges can)
      (joined_second f are.flow.width words all_words e (step x) one two has))
  edges_have e (x ∷ edges) (suc k) d one can below to has =
      let here = All-head (CanFollowEdge f operations) x edges can in
      let rest = All-tail (CanFollowEdge f operations) x edges can in
      let two = edge_entry f operations are state is x here in
      elim (cases_Bool (x.to == n)) [
        | inl goes ↦
            subst (λ (b : Bool). After e (cond b (x ∷ filter goes_in edges) (filter goes_in edges))) (sym goes)
            (edges_have (joined_entries f e (step x)) edges k d (joined_entry f are.flow.width e (step x) one two) rest
            (omega arith) to has)
        | inr other ↦
            subst (λ (b : Bool). After e (cond b (x ∷ filter goes_in edges) (filter goes_in edges))) (sym other)
            (edges_have e edges k d one rest (omega arith) to has)
      ]

  round_entry : n < f.nodes → IsFlowEntry f (entry_at state n)
  round_entry below = is.entries n None (omega (arith, is.counted))

  -- a round keeps what a node has, and adds what the step of an edge to it has
  pub round_keeps : n < f.nodes → HasVariableWords f (entry_at state n) words →
      HasVariableWords f (entry_at (round f operations state) n) words
  round_keeps below has =
      subst (λ (e : Entry). HasVariableWords f e words) (sym (round-at f operations state 0 f.nodes n below))
      (subst (λ (m : ℕ). HasVariableWords f (entry_after f operations state m) words)
      (let z : n ≡ 0 + n = omega arith in z)
      (edges_keep (entry_at state n) f.edges (round_entry below) (all_follow f operations are) has))

  pub round_has : (e : Edge) → Contains f.edges e → e.to ≡ n → n < f.nodes → HasVariableWords f (step e) words →
      HasVariableWords f (entry_at (round f operations state) n) words
  round_has e within to below has =
      let here : get_or f.edges within.0 e ≡ e = within.2 in
      subst (λ (e : Entry). HasVariableWords f e words) (sym (round-at f operations state 0 f.nodes n below))
      (subst (λ (m : ℕ). HasVariableWords f (entry_after f operations state m) words)
      (let z : n ≡ 0 + n = omega arith in z)
      (edges_have (entry_at state n) f.edges within.0 e (round_entry below) (all_follow f operations are) within.1
      (ap (λ (x : Edge). x.to) here ∙ to)
      (subst (λ (x : Edge). HasVariableWords f (step x) words) (sym here) has)))

-- ---- steps

-- what a step has, where an edge leads there
record Has (f : Flow) (e : Entry) (words : List ℕ) : Type 0 where
  members : HasVariableWords f e words
  are : AreWordsOf f words

has_set : (f : Flow) (row : FlowRow) (before after : List ℕ) (a c : ℕ) (value : List ℕ) → AreWordsOf f before →
    AllZip (IsMemberOf f) row before → c < 2 ^ f.width → IsMemberOf f value c → after ≡ slice_set before a c →
    Has f (Some (slice_set row a value)) after
has_set f row before after a c value are all below member e =
    subst (Has f (Some (slice_set row a value))) (sym e) (record {
      members = zip_set (IsMemberOf f) row before a value c all member;
      are = set_tuple f before a c below are;
    })

tidied_has : (f : Flow) (row : FlowRow) (before after : List ℕ) (a c : ℕ) (raw : List ℕ) (t : Option (List ℕ)) →
    AreWordsOf f before → AllZip (IsMemberOf f) row before → c < 2 ^ f.width → IsMemberOf f raw c →
    after ≡ slice_set before a c →
    MatchOption t ((d : ℕ) → d < 2 ^ f.width → ¬ IsMemberOf f raw d)
    (λ v. IsFlowValue f v × ((d : ℕ) → d < 2 ^ f.width → IsMemberOf f raw d → IsMemberOf f v d)) →
    Has f (option_map (slice_set row a) t) after
tidied_has f row before after a c raw None are all below member e h = absurd (h c below member)
tidied_has f row before after a c raw (Some v) are all below member e h =
    has_set f row before after a c v are all below (h.1 c below member) e

-- the value of an operation that may be used at words is a word, and a member of its transformer's result
module _ (f : Flow) (o : Operation) (from : List ℕ) (row : FlowRow) (before : List ℕ) (is : IsFlowRow f row)
    (can : CanApply f o from) (are : AreWordsOf f before) (all : AllZip (IsMemberOf f) row before) where
  abbrev IsOwnMember : List ℕ → ℕ → Type 0
  IsOwnMember = IsMember (question_of o.problem)

  own_members : AllZip IsOwnMember row before
  own_members =
      subst (λ (k : Kind). AllZip (λ a c. (meaning_of k).Member o.problem.width a c) row before) (sym can.kind)
      (subst (λ (w : ℕ). AllZip (λ a c. (meaning_of f.kind).Member w a c) row before) (sym can.width) all)

  own_words : AreWords o.problem.width before
  own_words = subst (λ (w : ℕ). AreWords w before) (sym can.width) are.words

  taken_members : (places : List ℕ) → All (λ b. b < f.variables) places →
      AreMembers (question_of o.problem) (at [] row places) (at 0 before places)
  taken_members [] within = tt
  taken_members (b ∷ places) within =
      let here = All-head (λ b. b < f.variables) b places within in (
        own_words b,
        zip_at IsOwnMember row before b [] 0 own_members (omega (arith, is.counted, here)),
        taken_members places (All-tail (λ b. b < f.variables) b places within),
      )

  members_taken : AreMembers (question_of o.problem) (at [] row from) (at 0 before from)
  members_taken = taken_members from can.places

  value_word : (question_of o.problem).operation (at 0 before from) < 2 ^ f.width
  value_word =
      let q = question_of o.problem in
      let words =
      members_are_words o.problem (at [] row from) (at 0 before from) (are_inputs f o from row is can).counted
      members_taken in
      subst (λ (w : ℕ). q.operation (at 0 before from) < 2 ^ w) can.width
      (operations_give_words o.problem can.problem.formed (at 0 before from) words)

  flow_member : (raw : List ℕ) (c : ℕ) → IsOwnMember raw c → IsMemberOf f raw c
  flow_member raw c member =
      subst (λ (k : Kind). (meaning_of k).Member f.width raw c) can.kind
      (subst (λ (w : ℕ). (meaning_of o.problem.kind).Member w raw c) can.width member)

module _ (f : Flow) (operations : List Operation) (are : AreOperations f operations) (sound : AllSound operations) where
  applied_has : (i a : ℕ) (from : List ℕ) (row : FlowRow) (before after : List ℕ) (o : Operation) →
      CanAct f operations (Apply i a from) → slice_get operations i ≡ Some o → IsFlowRow f row → AreWordsOf f before →
      AllZip (IsMemberOf f) row before → Applies (Some o) a (at 0 before from) before after →
      Has f (option_map (slice_set row a) (applied f (Some o) (at [] row from))) after
  applied_has i a from row before after o act here is words all moves =
      let can = can_apply f operations are i a from o act here in
      let q = question_of o.problem in
      let raw = results q o.terms (at [] row from) in
      let c = q.operation (at 0 before from) in
      let member = sound i o here (at [] row from) (are_inputs f o from row is can) (at 0 before from)
      (members_taken f o from row before is can words all) moves.0 in
      tidied_has f row before after a c raw ((abstraction_of f.kind).tidy f.width raw) words all
      (value_word f o from row before is can words all)
      (flow_member f o from row before is can words all raw c member) moves.1
      ((laws_of f.kind).tidies f.width are.flow.width raw (result_tuple f o from row is can))

  step_has : (action : Action) (row : FlowRow) (before after : List ℕ) → CanAct f operations action → IsFlowRow f row →
      AreWordsOf f before → AllZip (IsMemberOf f) row before → Moves f operations action before after →
      Has f (stepped f operations action row) after
  step_has Skip row before after act is words all moves =
      subst (Has f (Some row)) (sym moves) (record { members = all; are = words })
  step_has (Any a) row before after act is words all moves =
      has_set f row before after a moves.0 ((abstraction_of f.kind).top f.width) words all moves.1
      (((laws_of f.kind).has_top f.width are.flow.width).1 moves.0 moves.1) moves.2
  step_has (Set a c) row before after act is words all moves =
      has_set f row before after a c ((abstraction_of f.kind).of_word f.width c) words all act.named.1
      ((laws_of f.kind).holds_words f.width are.flow.width c act.named.1).1 moves
  step_has (Copy a b) row before after act is words all moves =
      let c = moves.0 in
      let here : get_or before b 0 ≡ c = get_or_from_slice_get before b c 0 moves.1 in
      has_set f row before after a c (get_or row b []) words all
      (subst (λ (d : ℕ). d < 2 ^ f.width) here (words.words b))
      (subst (λ (d : ℕ). IsMemberOf f (get_or row b []) d) here
      (zip_at (IsMemberOf f) row before b [] 0 all (omega (arith, is.counted, act.named.1)))) moves.2
  step_has (Apply i a from) row before after act is words all moves =
      let o = found operations i act.named.0 in
      subst (λ (r : Option Operation). Has f (option_map (slice_set row a) (applied f r (at [] row from))) after)
      (sym o.1)
      (applied_has i a from row before after o.0 act o.1 is words all
      (subst (λ (r : Option Operation). Applies r a (at 0 before from) before after) o.1 moves))

  from_entry_has : (action : Action) (e : Entry) (before after : List ℕ) → CanAct f operations action → IsFlowEntry f e
      →
      Has f e before → Moves f operations action before after → Has f (from_entry f operations action e) after
  from_entry_has action None before after act is has moves = absurd has.members
  from_entry_has action (Some row) before after act is has moves =
      step_has action row before after act is has.are has.members moves

  -- ---- runs

  -- each state has the words of a run's first point
  starts_have : (n : ℕ) (words : List ℕ) → AreWordsOf f words →
      HasVariableWords f (entry_at (state_after f operations n) 0) words
  starts_have zero words is =
      top_zip f are.flow.width f.variables words is.counted is.words
  starts_have (suc n) words is =
      round_keeps f operations are (state_after f operations n) (states_are f operations are n) words is.words 0
      are.flow.nodes.0 (starts_have n words is)

  module _ (table : State) (is : IsTable f operations table) where
    table_state : IsState f table
    table_state = subst (IsState f) (sym is.reached) (states_are f operations are is.rounds)

    run_has : (p : Point) (run : List Point) → IsRun f operations (p ∷ run) → Has f (entry_at table p.node) p.words
    run_has p [] r =
        let start = starts_have is.rounds p.words r.1 in
        record {
          members =
              subst (λ (n : ℕ). HasVariableWords f (entry_at table n) p.words) (sym r.0)
              (subst (λ (s : State). HasVariableWords f (entry_at s 0) p.words) (sym is.reached) start);
          are = r.1;
        }
    run_has q (p ∷ run) r =
        let e = r.0.0 in
        let within = r.0.1 in
        let along = r.0.2 in
        let can = All-contains (CanFollowEdge f operations) f.edges e (all_follow f operations are) within in
        let before = run_has p run r.1 in
        let here : Has f (entry_at table e.from) p.words =
        subst (λ (n : ℕ). Has f (entry_at table n) p.words) along.from before in
        let after =
        from_entry_has e.action (entry_at table e.from) p.words q.words can.acts
        (table_state.entries e.from None (omega (arith, table_state.counted, can.from))) here along.moves in
        let to : e.to ≡ q.node = sym along.to in
        let below = subst (λ (n : ℕ). n < f.nodes) to can.to in
        record {
          members =
              subst (λ (s : State). HasVariableWords f (entry_at s q.node) q.words) is.stays
              (round_has f operations are table table_state q.words after.are.words q.node e within to below
              after.members);
          are = after.are;
        }

-- a table covers each run, where the transformers are sound
pub tables_cover : TablesCoverRuns
tables_cover f operations table are sound is p run r = (run_has f operations are sound table is p run r).members
