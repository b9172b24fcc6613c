use Rattle.am_pair.specs.lemmas.Parts.{paired, front-IsTuple, back-IsTuple}
use Rattle.am_pair.proofs.pair.PairDomain.contains.Goals as goal

pub contains-requires-clause-tuple : goal.contains-requires-clause-tuple
contains-requires-clause-tuple g c =
    let d = c.args.self.now in
    let laws = paired (g.met.A.Anchored.is_anchored d.a) (g.met.A.Domain.keeps_laws d.a)
    (g.met.B.Domain.keeps_laws d.b) d.few in
    front-IsTuple laws c.args.w c.args.p.now c.first.result c.first.ensures c.requires.tuple

pub contains-requires-then-contains-clause-tuple : goal.contains-requires-then-contains-clause-tuple
contains-requires-then-contains-clause-tuple g c =
    let d = c.args.self.now in
    let laws = paired (g.met.A.Anchored.is_anchored d.a) (g.met.A.Domain.keeps_laws d.a)
    (g.met.B.Domain.keeps_laws d.b) d.few in
    back-IsTuple laws c.args.w c.args.p.now c.second.result c.second.ensures c.requires.tuple
