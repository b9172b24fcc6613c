use Rattle.std.proofs.lemmas.List.Elements.{All-weaker}
use Rattle.am_all.specs.AllBest.{GivesBest}
use Rattle.am_all.proofs.Laws.{only_best}
use Rattle.am_tree.specs.Trees.{AreTrees}
use Rattle.amurth.proofs.listing.list_text.Goals as goal

pub print_tuples-requires : goal.print_tuples-requires
print_tuples-requires c =
    let p = c.args.problem.now in
    let derives = AreTrees p.rules p.starts p.depth in
    rw c.as_slice.ensures
    (All-weaker (λ ts. derives ts × GivesBest p ts) derives (λ ts h. h.0) c.in_ok-best.best
    (only_best p c.in_ok-best.best c.in_ok-best.ensures))
