use Rattle.std.proofs.Common.{◌++◌, ◌<◌, sym, ◌∙◌}
use Rattle.std.proofs.lemmas.List.Elements.{All-contains}
use Rattle.am_lit.specs.Literal.{variable_of}
use Rattle.am_hint.proofs.Statuses.{below_at, forced_member}
use Rattle.am_hint.proofs.checker.propagate.Goals as goal

pub status_of-requires : goal.status_of-requires
status_of-requires c =
    let clauses = c.args.given.now ++ c.args.added.now in
    let below = below_at c.args.row.now.vars clauses _ c.in-Some.clause.now c.requires.normal c.in-Some.ensures in
    rw c.loop-number.invariant.vars below

pub push-requires : goal.push-requires
push-requires c =
    let clause = c.in-Some.clause.now in
    let l = c.in-Forces.l in
    let vars = c.args.row.now.vars in
    let below = below_at vars (c.args.given.now ++ c.args.added.now) _ clause c.requires.normal c.in-Some.ensures in
    let there = forced_member c.loop-number.row.literals clause l (sym c.status_of.ensures ∙ c.in-Forces.is) in
    rw c.loop-number.invariant.vars (All-contains (λ m. variable_of m < vars) clause l below there)
