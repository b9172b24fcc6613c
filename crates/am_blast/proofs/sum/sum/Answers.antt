use Rattle.am_blast.proofs.Sums.{Follows-sum_of}
use Rattle.am_blast.proofs.sum.sum.Goals as goal

pub returns-clause-ok : goal.returns-clause-ok
returns-clause-ok c =
    let both = c.in_ok-word.ensures.ok in
    record {
      follows = Follows-sum_of c.args.a.now c.args.b.now c.args.c _ _ _ both.follows;
      given = both.given.0;
      grows = both.grows;
    }
