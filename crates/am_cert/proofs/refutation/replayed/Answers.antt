use Rattle.std.proofs.Common.{◌≡◌, ◌≤◌, ◌++◌, [], ◌∷◌, ap, ◌∙◌, length, length-append, arith}
use Rattle.std.specs.Prelude.{Ok, Err}
use Rattle.std.proofs.lemmas.Option.{slice_get_within}
use Rattle.am_chain.specs.Chains.{clause_of}
use Rattle.am_chain.specs.Checked.{Checked, chain_outcome}
use Rattle.am_cert.proofs.Replayed.{chain_fails, derived_count, ends_empty, fault_of, few_steps, one_more}
use Rattle.am_cert.proofs.refutation.replayed.Goals as goal

pub add-requires-clause-clauses : goal.add-requires-clause-clauses
add-requires-clause-clauses c =
    let replayed = c.loop-k.invariant in
    let given = c.args.formula.now.clauses in
    let derived = c.loop-k.checker.derived in
    let log = c.args.log.now in
    let within = slice_get_within log c.loop-k.k c.get.result.now c.get.ensures in
    let count = derived_count given derived log c.loop-k.k replayed.so_far (omega (arith, within)) in
    omega (
      arith,
      length-append c.loop-k.checker.given derived,
      ap length replayed.given,
      count,
      within,
      c.requires.few,
      c.requires.bounded.chains,
    )

pub add-requires-clause-steps : goal.add-requires-clause-steps
add-requires-clause-steps c = few_steps c.args.log.now c.loop-k.k c.get.result.now c.requires.bounded c.get.ensures

pub returns-in-Err-Fault : goal.returns-in-Err-Fault
returns-in-Err-Fault c =
    let replayed = c.loop-k.invariant in
    let given = c.args.formula.now.clauses in
    let derived = c.loop-k.checker.derived in
    let chain = c.get.result.now in
    let fault = c.in-Err-Fault.fault in
    let faulty = fault_of (chain_outcome c.loop-k.checker chain) c.in-Err-Fault.field-0 fault
    c.in-Err-Fault.ensures.fault
    c.in-Err-Fault.field-0-is in
    let bad : clause_of (given ++ derived) chain ≡ Err fault = rw replayed.given at faulty in
    let so_far = replayed.so_far in
    rw c.in-Err-Fault.fault-is
    (chain_fails given derived c.args.log.now c.loop-k.k so_far chain c.get.ensures c.args.j fault bad)

pub loop-k-preserved : goal.loop-k-preserved
loop-k-preserved c =
    let replayed = c.loop-k.invariant in
    let given = c.args.formula.now.clauses in
    let derived = c.loop-k.checker.derived in
    let chain = c.get.result.now in
    let added = c.in-Ok.ensures.ok in
    let valid : clause_of (given ++ derived) chain ≡ Ok added.0 = rw replayed.given at added.1 in
    let more : c.add.new.self.derived ≡ derived ++ added.0 ∷ [] = ap (λ (k : Checked). k.derived) added.2 in
    let so_far = one_more given derived c.args.log.now c.loop-k.k replayed.so_far chain c.get.ensures added.0 valid in
    record {
      given = ap (λ (k : Checked). k.given) added.2 ∙ replayed.given;
      so_far = rw more so_far;
    }

pub returns-then-refuted : goal.returns-then-refuted
returns-then-refuted c =
    let replayed = c.loop-k.invariant in
    let given = c.args.formula.now.clauses in
    let derived = c.loop-k.checker.derived in
    let past : length c.args.log.now ≤ c.loop-k.k = omega (arith, c.len-k-end.ensures, c.loop-k-test.false) in
    ends_empty given derived c.args.log.now c.loop-k.k replayed.so_far c.args.j past
    (c.refuted.ensures.last.0 c.if-refuted.true)
