use Rattle.am_problem.proofs.Sizes.{small_member, small_valid}
use Rattle.am_problem.proofs.parts.Parts.load.Goals as goal

pub test_weight-requires : goal.test_weight-requires
test_weight-requires c =
    rw c.in_ok-member.ensures (small_member c.args.self.now.kind c.args.self.now.width c.requires.formed.width)

pub test_weight-requires-2 : goal.test_weight-requires-2
test_weight-requires-2 c =
    rw c.in_ok-valid.ensures (small_valid c.args.self.now.kind c.args.self.now.width c.requires.formed.width)
