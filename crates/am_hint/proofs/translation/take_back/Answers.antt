use Rattle.std.proofs.Common.{◌<◌, sym}
use Rattle.std.proofs.lemmas.List.Elements.{All-contains}
use Rattle.am_lit.specs.Literal.{variable_of}
use Rattle.am_hint.proofs.Statuses.{forced_member}
use Rattle.am_hint.proofs.translation.take_back.Goals as goal

pub push-requires-in-Forces-2 : goal.push-requires-in-Forces-2
push-requires-in-Forces-2 c =
    let vars = c.args.row.now.vars in
    let clause = c.args.clause.now in
    let there = forced_member c.args.row.now.literals clause c.in-Forces.l (sym c.in-Forces.ensures) in
    All-contains (λ l. variable_of l < vars) clause c.in-Forces.l c.requires there
