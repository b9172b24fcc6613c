use Rattle.std.proofs.Common.{◌≡◌, ◌∙◌, ap, arith, sym}
use Rattle.std.proofs.lemmas.Bool.{eqb-true}
use Rattle.am_lit.specs.Literal.{variable_of}
use Rattle.am_trail.proofs.Laws.{entry_of}
use Rattle.am_watch.proofs.looks.is_for_good.Goals as goal

pub returns : goal.returns
returns c = λ zero.
    let e = entry_of c.args.trail.now.entries c.args.l c.requires in
    let level : c.level_of.result ≡ e.0.level =
    c.level_of.ensures e.0 e.1 (ap variable_of e.2 ∙ sym c.variable.ensures) in
    let none : c.level_of.result ≡ 0 = eqb-true c.level_of.result 0 zero in
    (e.0, e.1, e.2, omega arith)
