use Rattle.std.proofs.Common.{arith, ◌++◌, ◌≡◌, ◌∙◌, ◌<◌, ◌+◌, length}
use Rattle.std.specs.Prelude.{vec_len}
use Rattle.am_watch.proofs.Rows.{swap_keeps, swap_within, swap_cuts}
use Rattle.am_watch.proofs.Visiting.{code_below}
use Rattle.am_watch.proofs.Sweeping.{watched_now, fresh_there, keeps_at}
use Rattle.am_watch.proofs.watches.Watches.watch.Goals as goal

pub push-requires : goal.push-requires
push-requires c = code_below c.args.pair.first c.args.trail.now.vars _
    (c.requires.holds.variables c.args.number c.args.pair.first c.requires.pair.first) c.requires.holds.codes

pub push-requires-2 : goal.push-requires-2
push-requires-2 c = code_below c.args.pair.second c.args.trail.now.vars _
    (c.requires.holds.variables c.args.number c.args.pair.second c.requires.pair.second) (c.in_ok-push.ensures.count
    ∙ c.requires.holds.codes)

pub returns-clause-holds : goal.returns-clause-holds
returns-clause-holds c =
    let old = c.args.self.now.fresh.items in
    let new = c.swap_remove.new.self.items in
    let n = vec_len c.args.self.now.fresh in
    let is : n ≡ length old = omega (arith, c.args.self.now.fresh.ok.0) in
    let in' : c.args.k < n = omega (arith, c.args.self.now.fresh.ok.0) in
    let short : length new + 1 ≡ n = omega (arith, c.swap_remove.ensures.len, c.swap_remove.new.self.ok.0) in
    watched_now c.args.self.now.lists c.push.new.self c.push-2.new.self c.args.self.now.pairs.items old new
    (c.args.given.now ++ c.args.learnt.now) c.args.trail.now c.args.number c.args.pair
    c.requires.holds (fresh_there old c.args.k c.args.number c.requires.k c.requires.number) c.requires.pair
    c.requires.first c.requires.second c.in_ok-push.ensures c.in_ok-push-2.ensures
    (keeps_at old new c.args.k c.args.number c.requires.number
    (swap_keeps old new c.args.k n is in' short c.swap_remove.ensures.by_index.0 c.swap_remove.ensures.by_index.1))
    (swap_within old new c.args.k n is in' short c.swap_remove.ensures.by_index.0 c.swap_remove.ensures.by_index.1)

pub returns-clause-cut : goal.returns-clause-cut
returns-clause-cut c =
    let old = c.args.self.now.fresh.items in
    let new = c.swap_remove.new.self.items in
    let n = vec_len c.args.self.now.fresh in
    let is : n ≡ length old = omega (arith, c.args.self.now.fresh.ok.0) in
    let in' : c.args.k < n = omega (arith, c.args.self.now.fresh.ok.0) in
    let short : length new + 1 ≡ n = omega (arith, c.swap_remove.ensures.len, c.swap_remove.new.self.ok.0) in
    swap_cuts old new c.args.k n is in' short c.swap_remove.ensures.by_index.0 c.swap_remove.ensures.by_index.1
