use Rattle.std.proofs.Common.{rules, sym, ◌∙◌}
use Rattle.am_bv.specs.Words.{IsWidth}
use Rattle.am_pair.specs.lemmas.Parts.{paired, front-IsTuple, back-IsTuple}
use Rattle.am_pair.proofs.Hulls.{tidied-IsAbstract}
use Rattle.am_pair.proofs.pair.PairDomain.tidy.Goals as goal

pub tidy-requires : goal.tidy-requires
tidy-requires g c =
    let d = c.args.self.now in
    let laws = paired (g.met.A.Anchored.is_anchored d.a) (g.met.A.Domain.keeps_laws d.a)
    (g.met.B.Domain.keeps_laws d.b) d.few in
    front-IsTuple laws c.args.w c.args.raw.now c.first.result c.first.ensures c.requires

pub tidy-requires-2 : goal.tidy-requires-2
tidy-requires-2 g c =
    let d = c.args.self.now in
    let laws = paired (g.met.A.Anchored.is_anchored d.a) (g.met.A.Domain.keeps_laws d.a)
    (g.met.B.Domain.keeps_laws d.b) d.few in
    back-IsTuple laws c.args.w c.args.raw.now c.second.result c.second.ensures c.requires

pub hull_of_common-requires-clause-first : goal.hull_of_common-requires-clause-first
hull_of_common-requires-clause-first g c =
    let d = c.args.self.now in
    let laws = paired (g.met.A.Anchored.is_anchored d.a) (g.met.A.Domain.keeps_laws d.a)
    (g.met.B.Domain.keeps_laws d.b) d.few in
    let width : IsWidth c.args.w = search rules in
    let tuple = front-IsTuple laws c.args.w c.args.raw.now c.first.result c.first.ensures c.requires in
    tidied-IsAbstract laws.first c.args.w width c.first.result tuple c.in_ok-x.x (sym c.tidy.ensures ∙ c.in_ok-x.was)

pub hull_of_common-requires-clause-second : goal.hull_of_common-requires-clause-second
hull_of_common-requires-clause-second g c =
    let d = c.args.self.now in
    let laws = paired (g.met.A.Anchored.is_anchored d.a) (g.met.A.Domain.keeps_laws d.a)
    (g.met.B.Domain.keeps_laws d.b) d.few in
    let width : IsWidth c.args.w = search rules in
    let tuple = back-IsTuple laws c.args.w c.args.raw.now c.second.result c.second.ensures c.requires in
    tidied-IsAbstract laws.second c.args.w width c.second.result tuple c.in_ok-y.y
    (sym c.tidy-2.ensures ∙ c.in_ok-y.was)
