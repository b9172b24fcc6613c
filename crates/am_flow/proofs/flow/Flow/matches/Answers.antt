use Rattle.std.proofs.Common.{subst}
use Rattle.std.proofs.lemmas.List.{take_all}
use Rattle.am_flow.specs.Flows.{AllFit}
use Rattle.am_flow.proofs.FitLaws.{AllFit-more}
use Rattle.am_flow.proofs.flow.Flow.matches.Goals as goal

pub signatures-preserved : goal.signatures-preserved
signatures-preserved c =
    let i = c.signatures.i in
    AllFit-more c.args.self.now c.args.signatures.now i c.index-signatures-i.result c.signatures-test.true
    c.index-signatures-i.is c.signatures.invariant (c.fits.ensures.0 c.if-not-fits.false)

pub returns-clause-fit : goal.returns-clause-fit
returns-clause-fit c =
    let whole = take_all c.signatures.i c.args.signatures.now c.signatures-test.false in
    subst (AllFit c.args.self.now) whole c.signatures.invariant
