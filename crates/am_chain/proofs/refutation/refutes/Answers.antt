use Rattle.std.proofs.Common.{◌≡◌, ◌++◌, [], ◌∷◌, ap, ◌∙◌, length, length-append, arith}
use Rattle.std.specs.Prelude.{Ok, Err}
use Rattle.am_chain.specs.Chains.{clause_of}
use Rattle.am_chain.specs.Checked.{Checked, chain_outcome}
use Rattle.am_chain.proofs.Replaying.{chain_fails, chain_taken, fault_of, not_refuted}
use Rattle.am_chain.proofs.refutation.refutes.Goals as goal

pub returns-in-Err-Fault : goal.returns-in-Err-Fault
returns-in-Err-Fault c =
    let given = c.args.formula.now.clauses in
    let log = c.args.log.now in
    let derived = c.loop-k.checker.derived in
    let faulty = fault_of (chain_outcome c.loop-k.checker c.get-chain.result.now) c.in-Err-Fault.field-0
    c.in-Err-Fault.field-0-0 c.in-Err-Fault.ensures.fault c.in-Err-Fault.field-0-is in
    let fails : clause_of (given ++ derived) c.get-chain.result.now ≡ Err c.in-Err-Fault.field-0-0 =
    rw c.loop-k.invariant.0 at faulty in (
      (λ e. cc),
      (λ r. absurd
          (not_refuted given log _
          (chain_fails given derived log c.loop-k.k c.get-chain.result.now _ c.get-chain.ensures c.loop-k.invariant.2
          c.in-Err-Fault.field-0-0 fails)
          r)),
    )

pub loop-k-preserved : goal.loop-k-preserved
loop-k-preserved c =
    let given = c.args.formula.now.clauses in
    let derived = c.loop-k.checker.derived in
    let added = c.in-Ok.ensures.ok in
    let valid : clause_of (given ++ derived) c.get-chain.result.now ≡ Ok added.0 = rw c.loop-k.invariant.0 at added.1 in
    let more : c.add.new.self.derived ≡ derived ++ added.0 ∷ [] = ap (λ (k : Checked). k.derived) added.2 in (
      ap (λ (k : Checked). k.given) added.2 ∙ c.loop-k.invariant.0,
      omega (arith, ap length more, length-append derived (added.0 ∷ []), c.loop-k.invariant.1),
      rw more
          (chain_taken given derived c.args.log.now c.loop-k.k c.get-chain.result.now _ c.get-chain.ensures
          c.loop-k.invariant.2 added.0 valid),
    )
