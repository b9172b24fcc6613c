use Rattle.am_pair.specs.lemmas.Commons.{common-members}
use Rattle.am_pair.proofs.theorems.common_are_members_of_both.Goals as goal

pub returns : goal.returns
returns g c =
    common-members (g.met.A.Anchored.is_anchored c.args.first.now) (g.met.B.Domain.keeps_laws c.args.second.now)
