use Rattle.std.proofs.Common.{◌++◌}
use Rattle.am_watch.proofs.Turning.{place_still, cut_at, turned}
use Rattle.am_watch.proofs.watches.Watches.turn.Goals as goal

pub remove-requires-clause-j : goal.remove-requires-clause-j
remove-requires-clause-j c =
    place_still c.args.self.now.lists c.push.new.self c.push.new.self c.args.self.now.pairs.items
    c.args.self.now.fresh.items (c.args.given.now ++ c.args.learnt.now) c.args.trail.now c.args.l c.args.j
    c.args.number c.args.other c.args.next c.requires.holds c.requires.turn c.in_ok-push.ensures

pub returns-clause-holds : goal.returns-clause-holds
returns-clause-holds c =
    turned c.args.self.now.lists c.push.new.self c.remove.new.self c.args.self.now.pairs.items
    c.args.self.now.fresh.items (c.args.given.now ++ c.args.learnt.now) c.args.trail.now c.args.l c.args.j
    c.args.number c.args.other c.args.next c.requires.holds c.requires.turn c.in_ok-push.ensures c.remove.ensures

pub returns-clause-cut : goal.returns-clause-cut
returns-clause-cut c =
    cut_at c.args.self.now.lists c.push.new.self c.remove.new.self c.args.self.now.pairs.items
    c.args.self.now.fresh.items (c.args.given.now ++ c.args.learnt.now) c.args.trail.now c.args.l c.args.j
    c.args.number c.args.other c.args.next c.requires.holds c.requires.turn c.in_ok-push.ensures c.remove.ensures
