use Rattle.std.proofs.Common.{arith, ◌≡◌, ◌≤◌, ◌++◌, ◌∷◌, [], refl, length, length-append}
use Rattle.std.specs.Prelude.{Ok}
use Rattle.std.specs.List.Sorted.{IsStrictlyIncreasing}
use Rattle.std.proofs.lemmas.List.Elements.{All-push, All-weaker}
use Rattle.am_lit.specs.Clause.{IsNormal}
use Rattle.am_chain.specs.declared.chain.Chain.{Chain}
use Rattle.am_chain.specs.Chains.{clause_of}
use Rattle.am_chain.proofs.Laws.{length-replay, replay-append}
use Rattle.am_trail.specs.Trails.{literals}
use Rattle.am_solve.proofs.Decisions.{none_marked}
use Rattle.am_solve.proofs.Levels.{all_implied}
use Rattle.am_solve.proofs.Unique.{chain_empties}
use Rattle.am_solve.proofs.search.Search.refute.Goals as goal

pub resolve_all-requires : goal.resolve_all-requires
resolve_all-requires c =
    let s = c.args.self.now in
    record {
      number = c.requires.number;
      untrue = c.requires.untrue;
      rise =
          All-weaker (IsNormal s.trail.vars) IsStrictlyIncreasing (λ x n. n.rising) (c.args.given.now ++ s.learnt)
          c.requires.searches.normal;
      explained = c.requires.searches.explained;
    }

pub returns-clause-refutes : goal.returns-clause-refutes
returns-clause-refutes c =
    let s = c.args.self.now in
    let clauses = c.args.given.now ++ s.learnt in
    let f = c.in_ok-_marks.field-0 in
    let r = c.in_ok-_marks.ensures.resolved in
    let chain : Chain = record { first = c.args.conflict; steps = f.steps } in
    let empty : clause_of clauses chain ≡ Ok [] =
    chain_empties clauses (literals s.trail.entries) f.marks.places.items c.args.conflict f.steps r.reached
    c.requires.number
    (none_marked clauses s.trail.entries f.marks.places.items c.args.conflict f.steps r
    (all_implied 0 s.trail.entries s.trail.level c.known.ensures.leads (omega arith))) in
    rw c.in_ok-push.ensures.ok (
      s.learnt ++ [] ∷ [],
      replay-append c.args.given.now [] s.learnt s.log chain [] c.requires.searches.derives empty,
      (s.learnt, refl),
    )

pub returns-clause-longer : goal.returns-clause-longer
returns-clause-longer c =
    let s = c.args.self.now in
    let f = c.in_ok-_marks.field-0 in
    let chain : Chain = record { first = c.args.conflict; steps = f.steps } in
    rw c.in_ok-push.ensures.ok
    (omega (
      arith,
      length-append s.log (chain ∷ []),
      length-replay c.args.given.now [] s.learnt s.log c.requires.searches.derives,
    ))

pub returns-clause-short : goal.returns-clause-short
returns-clause-short c =
    let s = c.args.self.now in
    let f = c.in_ok-_marks.field-0 in
    let chain : Chain = record { first = c.args.conflict; steps = f.steps } in
    rw c.in_ok-push.ensures.ok
    (All-push (λ (x : Chain). length x.steps ≤ s.trail.vars) s.log chain c.requires.searches.steps
    (omega (arith, c.in_ok-_marks.ensures.resolved.few, c.known.ensures.few)))
