use Rattle.std.proofs.Common.{arith, take, ◌≡◌, ◌<◌, length, get_or, []}
use Rattle.std.proofs.lemmas.List.{take_all, take_more}
use Rattle.am_watch.specs.Watching.{empty_trail}
use Rattle.am_watch.proofs.Adding.{below_of, empty_holds, number_next, with_clause}
use Rattle.am_watch.proofs.watches.Watches.new.Goals as goal

pub loop-i-init : goal.loop-i-init
loop-i-init c = rw (c.new-2.ensures.items, c.new-3.ensures.items)
    (empty_holds c.in_ok-new.field-0 c.args.formula.now.vars c.in_ok-new.ensures.len c.in_ok-new.ensures.empty)

pub loop-i-preserved : goal.loop-i-preserved
loop-i-preserved c =
    let clauses = c.args.formula.now.clauses in
    let vars = c.args.formula.now.vars in
    let i = c.loop-i.i in
    let lt : i < length clauses = omega arith in
    rw (take_more clauses i [] lt, c.add.ensures.lists, c.in_ok-add.ensures.pairs, c.in_ok-add.ensures.fresh)
    (with_clause c.loop-i.watch.lists c.loop-i.watch.pairs.items c.loop-i.watch.fresh.items (take i clauses)
    (empty_trail vars) (get_or clauses i []) i
    (number_next c.loop-i.watch.pairs.items clauses i c.loop-i.invariant.numbers lt) c.loop-i.invariant
    (below_of clauses vars i c.args.formula.now.normal lt))

pub returns : goal.returns
returns c =
    let all : take c.loop-i.i c.args.formula.now.clauses ≡ c.args.formula.now.clauses =
    take_all c.loop-i.i c.args.formula.now.clauses (omega arith) in
    rw all at c.loop-i.invariant
