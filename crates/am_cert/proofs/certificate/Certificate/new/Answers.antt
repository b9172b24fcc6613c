use Rattle.am_cert.proofs.Writable.{outcomes_are_writable}
use Rattle.am_cert.proofs.certificate.Certificate.new.Goals as goal

pub invariant_of-result : goal.invariant_of-result
invariant_of-result c =
    outcomes_are_writable c.args.version c.args.problem c.args.outcome c.requires.chains c.keeps_limits.ensures
    c.requires.writable
