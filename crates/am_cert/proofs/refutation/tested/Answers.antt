use Rattle.std.proofs.Common.{◌≡◌, ◌≤◌, ◌++◌, [], ◌∷◌, ap, sym, ◌∙◌, length, length-append, length-take, take, arith}
use Rattle.std.specs.Prelude.{None, Some}
use Rattle.std.proofs.lemmas.List.{length-map}
use Rattle.std.proofs.lemmas.Option.{slice_get_within}
use Rattle.am_hint.specs.Hinted.{Hinted, fault_in}
use Rattle.am_hint.specs.HintReplay.{hint_clauses}
use Rattle.am_hint.specs.Hints.{hint_fault}
use Rattle.am_hint.specs.declared.hint.Hint.{Hint}
use Rattle.am_cert.proofs.TestedHints.{few_places, hint_fails, hint_fault_of, hints_end_empty, one_clause, one_passes}
use Rattle.am_cert.proofs.refutation.tested.Goals as goal

pub add-requires-clause-clauses : goal.add-requires-clause-clauses
add-requires-clause-clauses c =
    let so_far = c.loop-k.invariant in
    let hints = c.args.hints.now in
    let within = slice_get_within hints c.loop-k.k c.get.result.now c.get.ensures in
    omega (
      arith,
      length-append c.loop-k.checker.given c.loop-k.checker.added,
      ap length so_far.given,
      ap length so_far.added,
      length-map (take c.loop-k.k hints) (λ (h : Hint). h.clause),
      length-take c.loop-k.k hints,
      within,
      c.requires.few,
      c.requires.bounded.few,
    )

pub add-requires-clause-places : goal.add-requires-clause-places
add-requires-clause-places c = few_places c.args.hints.now c.loop-k.k c.get.result.now c.requires.bounded c.get.ensures

pub returns-in-Err-Fault : goal.returns-in-Err-Fault
returns-in-Err-Fault c =
    let so_far = c.loop-k.invariant in
    let vars = c.args.formula.now.vars in
    let given = c.args.formula.now.clauses in
    let hints = c.args.hints.now in
    let hint = c.get.result.now in
    let fault = c.in-Err-Fault.fault in
    let faulty =
    hint_fault_of (fault_in c.loop-k.checker hint) c.in-Err-Fault.field-0 fault c.in-Err-Fault.ensures.fault
    c.in-Err-Fault.field-0-is in
    let bad : hint_fault vars (given ++ hint_clauses (take c.loop-k.k hints)) hint ≡ Some fault =
    rw (so_far.vars, so_far.given, so_far.added) at faulty in
    rw c.in-Err-Fault.fault-is
    (hint_fails vars given hints c.loop-k.k so_far.passed hint c.get.ensures c.args.j fault bad)

pub loop-k-preserved : goal.loop-k-preserved
loop-k-preserved c =
    let so_far = c.loop-k.invariant in
    let vars = c.args.formula.now.vars in
    let given = c.args.formula.now.clauses in
    let hints = c.args.hints.now in
    let hint = c.get.result.now in
    let taken = c.in-Ok.ensures.ok in
    let passes : hint_fault vars (given ++ hint_clauses (take c.loop-k.k hints)) hint ≡ None =
    rw (so_far.vars, so_far.given, so_far.added) at taken.0 in
    record {
      vars = ap (λ (k : Hinted). k.vars) taken.1 ∙ so_far.vars;
      given = ap (λ (k : Hinted). k.given) taken.1 ∙ so_far.given;
      added =
          ap (λ (k : Hinted). k.added) taken.1
          ∙ ap (λ cs. cs ++ hint.clause ∷ []) so_far.added
          ∙ sym (one_clause vars given hints c.loop-k.k so_far.passed hint c.get.ensures);
      passed = one_passes vars given hints c.loop-k.k so_far.passed hint c.get.ensures passes;
    }

pub returns-then-refuted : goal.returns-then-refuted
returns-then-refuted c =
    let so_far = c.loop-k.invariant in
    let past : length c.args.hints.now ≤ c.loop-k.k = omega (arith, c.len-k-end.ensures, c.loop-k-test.false) in
    hints_end_empty c.args.formula.now.vars c.args.formula.now.clauses c.args.hints.now c.loop-k.k so_far.passed
    c.args.j
    past (rw so_far.added at (c.refuted.ensures.last.0 c.if-refuted.true))
