-- The words of the code's own types.
use Rattle.std.specs.Prelude.{ℕ, ◌≡◌, ◌+◌, ◌≤◌, ◌∷◌, ◌++◌, [], List, Option, length}
use Rattle.am_chain.specs.declared.chain.Step.{Step}
use Rattle.am_trail.specs.Trails.{Assigned, literals}
use Rattle.am_trail.specs.declared.entry.Entry.{Entry}
use Rattle.am_solve.specs.declared.analysis.Found.{Found}
use Rattle.am_solve.specs.declared.choice.Choice.{Choice}
use Rattle.am_solve.specs.declared.marks.Marks.{Marks}
use Rattle.am_solve.specs.declared.search.Search.{Search}
use Rattle.am_solve.specs.inside.Choosing.{IsReady}
use Rattle.am_solve.specs.inside.Marking.{CanResolve, IsAnalysedConflict, IsCounted, IsDerivedDownTo, IsMarkedMore}
use Rattle.am_solve.specs.inside.Marking.{IsResolved}
use Rattle.am_solve.specs.inside.Searching.{HasDescended, IsSearching, KeepsTo, SettledBelow}

-- the marks count those from their start on, and keep the others
abbrev pub CountsMarks : List ℕ → Marks → Type 0
CountsMarks row m = IsCounted row m.start m.places.items m.kept.items m.count

-- the marks have a place for each entry of a trail, and count or keep its literals
pub record FitsTrail (t : Assigned) (m : Marks) : Type 0 where
  pub len : length m.places.items ≡ length t.entries
  pub counted : CountsMarks (literals t.entries) m

-- the literal at a place can be resolved away
abbrev pub CanResolveAt : List (List ℕ) → Assigned → Marks → ℕ → ℕ → Type 0
CanResolveAt clauses t m reason i = CanResolve clauses t.entries m.places.items m.start reason i

-- the false literals of a clause were marked too, but for one
abbrev pub MarksMore : List ℕ → Marks → Marks → List ℕ → ℕ → Type 0
MarksMore row old new c besides = IsMarkedMore row old.places.items new.places.items c besides

-- the steps have come to the marked clause, and no place from one on is marked
abbrev pub HasDerived : List (List ℕ) → Assigned → Marks → ℕ → List Step → ℕ → Type 0
HasDerived clauses t m first steps i = IsDerivedDownTo clauses (literals t.entries) m.places.items first steps i

-- the steps have come to the marked clause, and of the places from one on only decided ones are marked
abbrev pub HasResolved : List (List ℕ) → Assigned → Marks → ℕ → List Step → ℕ → Type 0
HasResolved clauses t m first steps i = IsResolved clauses t.entries m.places.items first steps i

-- the literal at a place was resolved away: what the steps had come to from the next place on, they have come to from
-- this one on
pub record HasResolvedAt (clauses : List (List ℕ)) (t : Assigned) (old new : Marks) (steps more : List Step) (i : ℕ)
    : Type 0 where
  pub fits : FitsTrail t new
  pub count : old.count ≤ new.count + 1
  pub derived : (first : ℕ) → HasDerived clauses t old first steps (i + 1) → HasDerived clauses t new first more i
  pub resolved : (first : ℕ) → HasResolved clauses t old first steps (i + 1) → HasResolved clauses t new first more i

-- what an analysis found
abbrev pub IsAnalysis : List (List ℕ) → Assigned → ℕ → Found → Type 0
IsAnalysis clauses t first f = IsAnalysedConflict clauses t first f.kept.items f.steps f.place

-- each variable is held or has a value
abbrev pub Chooses : Choice → ℕ → List Entry → Type 0
Chooses choice vars entries = IsReady choice.order choice.phases.items vars entries

-- the invariant of a search over a formula
abbrev pub Searches : List (List ℕ) → Search → Type 0
Searches given s =
    IsSearching given s.learnt s.trail.vars s.log s.watch s.trail

-- the search can choose its next decision
abbrev pub CanChoose : Search → Type 0
CanChoose s = Chooses s.choice s.trail.vars s.trail.entries

-- the search learns and decides over a list of variables alone
abbrev pub StaysOver : List ℕ → Search → Type 0
StaysOver base s = KeepsTo base s.learnt s.trail.entries

-- all clauses, and one more, are settled below the current level
abbrev pub SettlesBelow : List (List ℕ) → Search → List ℕ → Type 0
SettlesBelow given s c = SettledBelow ((given ++ s.learnt) ++ c ∷ []) s.trail.entries s.trail.level

-- the search met a false clause; or all are settled, and each variable has a value
abbrev pub HasCome : List (List ℕ) → Search → Option ℕ → Type 0
HasCome given s answer = HasDescended (given ++ s.learnt) s.trail.vars s.trail.entries answer
