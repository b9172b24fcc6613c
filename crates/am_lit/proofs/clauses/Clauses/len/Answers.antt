use Rattle.std.proofs.Common.{ap, length, sym, ◌∙◌}
use Rattle.am_lit.proofs.Cut.{length_rows}
use Rattle.am_lit.proofs.clauses.Clauses.len.Goals as goal

pub returns : goal.returns
returns c =
    c.len.ensures ∙ c.self.inside.ends.ok.0 ∙ sym (length_rows 0 c.self.inside.ends.items c.self.inside.lits.items)
    ∙ ap length c.self.view_is
