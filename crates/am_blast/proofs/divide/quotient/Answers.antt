use Rattle.am_blast.proofs.Division.{Follows-quotient}
use Rattle.am_blast.proofs.divide.quotient.Goals as goal

pub returns-clause-ok : goal.returns-clause-ok
returns-clause-ok c =
    let divided = c.in_ok-quotient.ensures.ok in
    record {
      follows = Follows-quotient c.args.a.now c.args.b.now _ _ _ divided.follows;
      given = divided.given.0;
      grows = divided.grows;
    }
