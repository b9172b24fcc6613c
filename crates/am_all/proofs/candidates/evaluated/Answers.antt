use Rattle.am_all.proofs.FitLaws.{fits-cases}
use Rattle.am_all.proofs.candidates.evaluated.Goals as goal

pub term_of-requires : goal.term_of-requires
term_of-requires c = rw c.grammar.ensures.rules (record { depth = c.args.p.now.depth; derives = c.requires.tree })

pub values-requires : goal.values-requires
values-requires c =
    rw (c.width.ensures, c.in_ok-term.ensures, c.grammar.ensures.rules)
    (fits-cases c.args.p.now c.args.cases.now c.keeps_limits.ensures c.requires.cases c.args.start c.args.tree.now
    c.requires.tree)
