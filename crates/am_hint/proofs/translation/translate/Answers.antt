use Rattle.std.proofs.Common.{◌≡◌, ◌≤◌, [], ◌∷◌, ◌++◌, drop, length, length-append, append-nil, sym, ap, ◌∙◌, arith}
use Rattle.std.specs.Prelude.{Ok}
use Rattle.std.proofs.lemmas.List.{at_drop_all}
use Rattle.std.proofs.lemmas.Option.{get_or_from_slice_get, slice_get_within}
use Rattle.am_chain.specs.ChainLaws.{IsRisingBelow}
use Rattle.am_chain.specs.Chains.{clause_of}
use Rattle.am_chain.specs.Checked.{Checked, all_clauses}
use Rattle.am_chain.proofs.Laws.{chain_below, formula_below}
use Rattle.am_hint.proofs.Growing.{All-with_clause, next_valid}
use Rattle.am_hint.proofs.translation.translate.Goals as goal

pub loop-k-init : goal.loop-k-init
loop-k-init c =
    let formula = c.args.formula.now in
    let new = c.in_ok-translation.ensures in
    let below = formula_below formula.vars formula.clauses formula.normal in
    record {
      formula = new.formula;
      given = ap (λ (k : Checked). k.given) new.checker;
      count = ap (λ (k : Checked). length k.derived) new.checker;
      rest = (c.requires.refutes.0, rw new.checker c.requires.refutes.1, c.requires.refutes.2);
      rising = rw (new.checker, append-nil) below;
      vars = new.vars;
      translated = new.translated;
    }

pub add-requires-clause-valid : goal.add-requires-clause-valid
add-requires-clause-valid c =
    let k = c.loop-k.translation.checker in
    let rest = c.loop-k.invariant.rest in
    let next = next_valid c.args.formula.now.clauses k.derived rest.0 c.args.log.now c.loop-k.k c.get.result.now
    c.get.ensures rest.1 in
    (next.0, rw c.loop-k.invariant.given next.1)

pub add-requires-clause-steps : goal.add-requires-clause-steps
add-requires-clause-steps c =
    let log = c.args.log.now in
    let chain = c.get.result.now in
    rw (get_or_from_slice_get log c.loop-k.k chain chain c.get.ensures) at
    (c.requires.steps c.loop-k.k chain (slice_get_within log c.loop-k.k chain c.get.ensures))

pub add-requires-clause-rising : goal.add-requires-clause-rising
add-requires-clause-rising c = rw c.loop-k.invariant.formula c.loop-k.invariant.rising

pub loop-k-preserved : goal.loop-k-preserved
loop-k-preserved c =
    let vars = c.args.formula.now.vars in
    let k = c.loop-k.translation.checker in
    let log = c.args.log.now in
    let rest = c.loop-k.invariant.rest in
    let next =
    next_valid c.args.formula.now.clauses k.derived rest.0 log c.loop-k.k c.get.result.now c.get.ensures rest.1 in
    let added = c.in_ok-add.ensures.added in
    let valid : clause_of (c.args.formula.now.clauses ++ k.derived) c.get.result.now ≡ Ok added.0 =
    rw c.loop-k.invariant.given at added.1 in
    let same : next.0 ≡ added.0 = (let both = sym next.1 ∙ valid in cc) in
    let below = chain_below vars (all_clauses k) c.loop-k.invariant.rising c.get.result.now added.0 added.1 in
    record {
      formula = c.in_ok-add.ensures.same ∙ c.loop-k.invariant.formula;
      given = ap (λ (x : Checked). x.given) added.2 ∙ c.loop-k.invariant.given;
      count = omega (
        arith,
        ap (λ (x : Checked). length x.derived) added.2,
        length-append k.derived (added.0 ∷ []),
        c.loop-k.invariant.count,
      );
      rest = (rest.0, rw (added.2, ← same) next.2, rest.2);
      rising = rw added.2 (All-with_clause (IsRisingBelow vars) k added.0 c.loop-k.invariant.rising below);
      vars = c.in_ok-add.ensures.vars ∙ c.loop-k.invariant.vars;
      translated = rw c.loop-k.invariant.formula at c.in_ok-add.ensures.translated;
    }

pub returns-clause-refutes : goal.returns-clause-refutes
returns-clause-refutes c =
    let log = c.args.log.now in
    let rest = c.loop-k.invariant.rest in
    let translated = c.loop-k.invariant.translated in
    let done : length log ≤ c.loop-k.k = omega arith in
    let none : drop c.loop-k.k log ≡ [] = at_drop_all (λ s. s) log c.loop-k.k done in
    let all : Ok c.loop-k.translation.checker.derived ≡ Ok rest.0 = rw none at rest.1 in
    let same : c.loop-k.translation.checker.derived ≡ rest.0 = cc in
    (rw c.loop-k.invariant.given at translated.pass, translated.moved.ends (rw same rest.2))
