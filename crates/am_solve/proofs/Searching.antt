-- What each move of the search keeps.
use Rattle.std.proofs.Common.{ℕ, ◌≡◌, ◌+◌, ◌<◌, ◌≤◌, List, [], ◌∷◌, ◌++◌, All, length, get_or, take, refl, sym, ap, ◌∙◌}
use Rattle.std.proofs.Common.{arith, append_assoc, length-append, length-take}
use Rattle.std.specs.Prelude.{Option, Some, None, Ok}
use Rattle.std.proofs.lemmas.List.{get_or_append_left, get_or-take, take-map, take-take, append-nil}
use Rattle.std.proofs.lemmas.List.Elements.{All-nil, All-push}
use Rattle.am_lit.specs.Literal.{variable_of}
use Rattle.am_lit.specs.Clause.{IsNormal}
use Rattle.am_lit.specs.UnitRow.{IsNew, IsSettled}
use Rattle.am_lit.proofs.Laws.{AllNew-push}
use Rattle.am_chain.specs.declared.chain.Chain.{Chain}
use Rattle.am_chain.specs.Chains.{clause_of}
use Rattle.am_chain.proofs.Laws.{replay-append}
use Rattle.am_trail.specs.declared.entry.Entry.{Entry}
use Rattle.am_trail.specs.Trails.{literals, Assigned, IsTrail, decided, returned, upto}
use Rattle.am_watch.specs.Watching.{Extends, WatchesHold, IsExplained, IsReason, empty_trail, Watched}
use Rattle.am_watch.proofs.Laws.{explained_more, explained_still, holds_decide, holds_back}
use Rattle.am_trail.proofs.Laws.{upto-take}
use Rattle.am_solve.specs.inside.Searching.{IsSearching, SettledBelow}
use Rattle.am_solve.proofs.Settling.{settled_decide, settled_extends, settled_back}

short : (es : List Entry) (k n : ℕ) → k ≤ n → take k (literals (take n es)) ≡ take k (literals es)
short es k n le = ap (take k) (sym (take-map (λ (e : Entry). e.literal) n es)) ∙ take-take k n (literals es) le

more_reason : (clauses : List (List ℕ)) (c row : List ℕ) (l : ℕ) (o : Option ℕ) → IsReason clauses row l o
    → IsReason (clauses ++ c ∷ []) row l o
more_reason clauses c row l None h = tt
more_reason clauses c row l (Some r) h =
    (omega (arith, h.0, length-append clauses (c ∷ [])), rw (get_or_append_left clauses (c ∷ []) [] r h.0) h.1)

module _ (given learnt : List (List ℕ)) (vars : ℕ) (log : List Chain) (watch : Watched) (t : Assigned)
    (s : IsSearching given learnt vars log watch t) where
  -- a decision, where each clause is settled
  pub search_decide : IsTrail t → t.head ≡ length t.entries → All (IsSettled (literals t.entries)) (given ++ learnt)
      → (l : ℕ) → IsSearching given learnt vars log watch (decided t l)
  search_decide trail end settled l =
      let e : Entry = record { literal = l; level = t.level + 1; reason = None } in record {
        width = s.width;
        holds = holds_decide watch (given ++ learnt) t l s.holds end;
        explained = explained_more (given ++ learnt) t.entries e 0 tt s.explained;
        below = settled_decide (given ++ learnt) t.entries t.level e trail.leads refl s.below settled;
        normal = s.normal;
        derives = s.derives;
        new = s.new;
        steps = s.steps;
      }

  -- propagation
  pub search_extends : (watch' : Watched) (u : Assigned) → Extends (given ++ learnt) t u
      → WatchesHold watch' (given ++ learnt) u
      → IsSearching given learnt vars log watch' u
  search_extends watch' u x holds = record {
    width = x.vars ∙ s.width;
    holds = holds;
    explained = explained_still (given ++ learnt) t u x 0 s.explained;
    below = settled_extends (given ++ learnt) t u x s.below;
    normal = s.normal;
    derives = s.derives;
    new = s.new;
    steps = s.steps;
  }

  explained_back : IsTrail t → (j : ℕ) → IsExplained 0 (given ++ learnt) (upto j t.entries)
  explained_back trail j k d lo hi =
      let es = t.entries in
      let n = length (upto j es) in
      let prefix : upto j es ≡ take n es = upto-take j 0 es t.level trail.leads in
      let long : length (take n es) ≡ n = sym (ap length prefix) in
      let within : n ≤ length es = omega (arith, long, length-take n es) in
      let old = s.explained k d lo (omega (arith, hi)) in
      let here : get_or (upto j es) k d ≡ get_or es k d = ap (λ r. get_or r k d) prefix ∙ get_or-take n es k d hi in
      let row : take k (literals (upto j es)) ≡ take k (literals es) =
      ap (λ r. take k (literals r)) prefix ∙ short es k n (omega arith) in
      rw (here, row) old

  -- a return to a level
  pub search_back : IsTrail t → (j : ℕ) → j ≤ t.level → IsSearching given learnt vars log watch (returned t j)
  search_back trail j le = record {
    width = s.width;
    holds = holds_back watch (given ++ learnt) t j s.holds trail le;
    explained = explained_back trail j;
    below = settled_back (given ++ learnt) t.entries t.level j le s.below;
    normal = s.normal;
    derives = s.derives;
    new = s.new;
    steps = s.steps;
  }

  -- a clause is learnt, at the level to which the search goes back: it is one literal at level 0,
  -- or two of its literals have no value below that level
  pub search_learn : (c : List ℕ) (chain : Chain) (watch' : Watched) → WatchesHold watch' ((given ++ learnt) ++ c ∷ [])
      t
      → IsNormal vars c
      → clause_of (given ++ learnt) chain ≡ Ok c → IsNew (given ++ learnt) c → length chain.steps ≤ vars
      → SettledBelow ((given ++ learnt) ++ c ∷ []) t.entries t.level
      → IsSearching given (learnt ++ c ∷ []) vars (log ++ chain ∷ []) watch' t
  search_learn c chain watch' holds normal derived new few below =
      let same : given ++ (learnt ++ c ∷ []) ≡ (given ++ learnt) ++ c ∷ [] = sym (append_assoc given learnt (c ∷ [])) in
      record {
        width = s.width;
        holds = rw same holds;
        explained =
            rw same (λ k d lo hi. more_clauses (given ++ learnt) c (take k (literals t.entries)) (get_or t.entries k d)
            (s.explained k d lo hi));
        below = rw same below;
        normal = rw same (All-push (IsNormal vars) (given ++ learnt) c s.normal normal);
        derives = replay-append given [] learnt log chain c s.derives derived;
        new = AllNew-push given learnt c s.new new;
        steps = All-push (λ (x : Chain). length x.steps ≤ vars) log chain s.steps few;
      } where
        more_clauses : (clauses : List (List ℕ)) (c row : List ℕ) (e : Entry) → IsReason clauses row e.literal e.reason
            → IsReason (clauses ++ c ∷ []) row e.literal e.reason
        more_clauses clauses c row e h = more_reason clauses c row e.literal e.reason h

-- a search over as many variables is one over that number
pub at_width : (given learnt : List (List ℕ)) (vars w : ℕ) (log : List Chain) (watch : Watched) (t : Assigned)
    → w ≡ vars → IsSearching given learnt vars log watch t
    → IsSearching given learnt w log watch t
at_width given learnt vars w log watch t e s = rw e s

pub variables_below : (vars : ℕ) (c : List ℕ) → IsNormal vars c → All (λ l. variable_of l < vars) c
variables_below vars c n = n.below

-- a search that has learnt and decided nothing
pub search_start : (given : List (List ℕ)) (vars : ℕ) (watch : Watched) → WatchesHold watch given (empty_trail vars)
    → All (IsNormal vars) given
    → IsSearching given [] vars [] watch (empty_trail vars)
search_start given vars watch holds normal = record {
  width = refl;
  holds = rw (append-nil given) holds;
  explained = λ k d lo hi. absurd (omega arith);
  below = λ i lt. absurd (omega arith);
  normal = rw (append-nil given) normal;
  derives = refl;
  new = tt;
  steps = All-nil (λ (x : Chain). length x.steps ≤ vars);
}
