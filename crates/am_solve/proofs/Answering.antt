-- What a search that reached its limit answers.
use Rattle.std.proofs.Common.{ℕ, ◌≡◌, ◌+◌, ◌<◌, ◌≤◌, ◌^◌, suc, zero, List, [], ◌∷◌, ◌++◌, All, length, get_or, refl}
use Rattle.std.proofs.Common.{arith, length-append}
use Rattle.std.specs.List.Sorted.{IsStrictlyIncreasing}
use Rattle.std.proofs.lemmas.List.{get_or-append-add}
use Rattle.am_lit.specs.Clause.{IsNormal}
use Rattle.am_lit.specs.UnitRow.{AllNew, IsUnitRow, MeetsConflict}
use Rattle.am_lit.specs.UnitRowLaws.{NewClausesAreFew}
use Rattle.am_lit.proofs.Laws.{nothing_new}
use Rattle.am_chain.specs.declared.chain.Chain.{Chain}
use Rattle.am_chain.proofs.Laws.{length-replay}
use Rattle.am_trail.specs.Trails.{Assigned}
use Rattle.am_watch.specs.Watching.{Watched}
use Rattle.am_solve.specs.declared.answer.Answer.TheVariants.{Spent}
use Rattle.am_solve.specs.Answers.{IsSolverAnswer}
use Rattle.am_solve.specs.inside.Searching.{IsSearching, KeepsTo}

-- what holds of each clause of two lists holds of those of the second
last_all : {X : Type 0} (P : X → Type 0) (xs ys : List X) → All P (xs ++ ys) → All P ys
last_all P xs ys h = λ k d lt.
    rw (get_or-append-add xs ys k d) at (h (length xs + k) d (omega (arith, lt, length-append xs ys)))

module _ (given learnt : List (List ℕ)) (vars : ℕ) (log : List Chain) (watch : Watched) (t : Assigned)
    (s : IsSearching given learnt vars log watch t) where
  -- a search that has learnt as many clauses as its limit may answer that it is spent
  pub spent_answer : (limit : ℕ) → length learnt ≡ limit → IsSolverAnswer given vars limit (Spent log)
  spent_answer limit all = (
    omega (arith, all, length-replay given [] learnt log s.derives),
    record {
      learnt = learnt;
      derives = s.derives;
      normal = last_all (IsNormal vars) given learnt s.normal;
      new = s.new;
    },
    s.steps,
  )

  -- the clauses over a base are fewer than a limit of 3 to the number of its variables
  pub spent_over : NewClausesAreFew → (base : List ℕ) (limit : ℕ) → IsStrictlyIncreasing base
      → KeepsTo base learnt t.entries → length learnt ≡ limit → 3 ^ length base ≤ limit
      → ⊥
  spent_over law base limit rises keeps all enough =
      let normal = last_all (IsNormal vars) given learnt s.normal in
      let few = law given learnt vars base rises s.new (λ k d lt. (normal k d lt, keeps.over k d lt)) in
      omega arith

  -- where unit propagation alone meets a conflict, nothing is learnt
  pub spent_conflict : (row : List ℕ) → IsUnitRow given [] row → MeetsConflict given row → length learnt ≡ 0
  spent_conflict row u k = none learnt s.new where
    none : (cs : List (List ℕ)) → AllNew given cs → length cs ≡ 0
    none [] h = refl
    none (c ∷ cs) h = absurd (nothing_new given row c u k h.0)

-- an increasing list of numbers below n has at most n of them
index_le : (xs : List ℕ) → IsStrictlyIncreasing xs → (k : ℕ) → k < length xs → k ≤ get_or xs k 0
index_le xs h zero lt = omega arith
index_le xs h (suc k) lt =
    let ih = index_le xs h k (omega arith) in
    let e : suc k ≡ k + 1 = omega arith in
    let up : get_or xs k 0 < get_or xs (k + 1) 0 = h k (omega arith) in
    rw e (omega arith)

-- there are at most n rising numbers below n
pub rising_few : (xs : List ℕ) (n : ℕ) → IsStrictlyIncreasing xs → All (λ v. v < n) xs → length xs ≤ n
rising_few [] n h below = omega arith
rising_few (x ∷ xs) n h below =
    let low = index_le (x ∷ xs) h (length xs) (omega arith) in
    let top : get_or (x ∷ xs) (length xs) 0 < n = below (length xs) 0 (omega arith) in
    omega arith
