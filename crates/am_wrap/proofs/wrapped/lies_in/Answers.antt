use Rattle.std.proofs.Common.{rules, ◌≡◌, ◌+◌, nat_le}
use Rattle.am_wrap.specs.WrappedIntervals.{lies_in}
use Rattle.am_wrap.specs.lemmas.Lying.{lies_in-members}
use Rattle.am_wrap.proofs.wrapped.lies_in.Goals as goal

pub returns-else-room-mask-clause-members : goal.returns-else-room-mask-clause-members
returns-else-room-mask-clause-members c =
    let rule : nat_le (c.from.result + c.from-else-room-mask.result) c.from-else-room-mask-2.result
    ≡ lies_in c.args.w c.args.a.now c.args.b.now =
    search rules in
    rw rule (lies_in-members c.args.w c.args.a.now c.args.b.now c.requires.first c.requires.second)
