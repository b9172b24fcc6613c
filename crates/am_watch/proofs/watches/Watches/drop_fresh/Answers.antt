use Rattle.std.proofs.Common.{arith, ◌++◌, ◌≡◌, ◌<◌, ◌+◌, inr, length}
use Rattle.std.specs.Prelude.{vec_len}
use Rattle.am_watch.proofs.Rows.{swap_keeps, swap_within}
use Rattle.am_watch.proofs.Keeping.{without_fresh}
use Rattle.am_watch.proofs.Sweeping.{keeps_at}
use Rattle.am_watch.proofs.watches.Watches.drop_fresh.Goals as goal

pub returns-clause-holds : goal.returns-clause-holds
returns-clause-holds c =
    let old = c.args.self.now.fresh.items in
    let new = c.swap_remove.new.self.items in
    let n = vec_len c.args.self.now.fresh in
    let is : n ≡ length old = omega (arith, c.args.self.now.fresh.ok.0) in
    let in' : c.args.k < n = omega (arith, c.args.self.now.fresh.ok.0) in
    let short : length new + 1 ≡ n = omega (arith, c.swap_remove.ensures.len, c.swap_remove.new.self.ok.0) in
    without_fresh c.args.self.now.lists c.args.self.now.pairs.items old (c.args.given.now ++ c.args.learnt.now)
    c.args.trail.now c.requires.holds c.args.number new
    (keeps_at old new c.args.k c.args.number c.requires.number
    (swap_keeps old new c.args.k n is in' short c.swap_remove.ensures.by_index.0 c.swap_remove.ensures.by_index.1))
    (swap_within old new c.args.k n is in' short c.swap_remove.ensures.by_index.0 c.swap_remove.ensures.by_index.1)
    (inr c.requires.settled)
