use Rattle.am_pair.specs.lemmas.Parts.{paired, front-IsTuple, back-IsTuple}
use Rattle.am_pair.proofs.pair.PairDomain.valid.Goals as goal

pub valid-requires : goal.valid-requires
valid-requires g c =
    let d = c.args.self.now in
    let laws = paired (g.met.A.Anchored.is_anchored d.a) (g.met.A.Domain.keeps_laws d.a)
    (g.met.B.Domain.keeps_laws d.b) d.few in
    front-IsTuple laws c.args.w c.args.p.now c.first-x.result c.first-x.ensures c.requires

pub valid-requires-then-valid : goal.valid-requires-then-valid
valid-requires-then-valid g c =
    let d = c.args.self.now in
    let laws = paired (g.met.A.Anchored.is_anchored d.a) (g.met.A.Domain.keeps_laws d.a)
    (g.met.B.Domain.keeps_laws d.b) d.few in
    back-IsTuple laws c.args.w c.args.p.now c.second-y.result c.second-y.ensures c.requires

pub contains-requires-clause-tuple : goal.contains-requires-clause-tuple
contains-requires-clause-tuple g c =
    let d = c.args.self.now in
    let laws = paired (g.met.A.Anchored.is_anchored d.a) (g.met.A.Domain.keeps_laws d.a)
    (g.met.B.Domain.keeps_laws d.b) d.few in
    back-IsTuple laws c.args.w c.args.p.now c.second-y.result c.second-y.ensures c.requires
