use Rattle.am_watch.specs.Watching.{Watched}
use Rattle.am_watch.proofs.Adding.{added, refused}
use Rattle.am_watch.proofs.watch.Watch.add.Goals as goal

pub returns-clause-ok : goal.returns-clause-ok
returns-clause-ok c =
    let f = c.self.inside.watches in
    let old : Watched = record { lists = f.lists; pairs = f.pairs.items; fresh = f.fresh.items } in
    let new : Watched = record {
      lists = c.add.new.self.lists;
      pairs = c.add.new.self.pairs.items;
      fresh = c.add.new.self.fresh.items;
    } in
    rw (← c.self.view_is) (added c.add.result old new c.args.clause c.add.ensures.lists c.add.ensures.pairs
    c.add.ensures.fresh c.args.lits.now)

pub returns-clause-err : goal.returns-clause-err
returns-clause-err c =
    let f = c.self.inside.watches in
    let old : Watched = record { lists = f.lists; pairs = f.pairs.items; fresh = f.fresh.items } in
    let new : Watched = record {
      lists = c.add.new.self.lists;
      pairs = c.add.new.self.pairs.items;
      fresh = c.add.new.self.fresh.items;
    } in
    rw (← c.self.view_is) (refused c.add.result old new c.args.clause c.add.ensures.lists c.add.ensures.same_pairs
    c.add.ensures.same_fresh)
