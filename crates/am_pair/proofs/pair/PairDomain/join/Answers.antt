use Rattle.std.proofs.Common.{rules}
use Rattle.am_bv.specs.Words.{IsWidth}
use Rattle.am_pair.specs.lemmas.Parts.{paired, front-IsAbstract, back-IsAbstract, few_words}
use Rattle.am_pair.proofs.pair.PairDomain.join.Goals as goal

pub join-x-requires-clause-first : goal.join-x-requires-clause-first
join-x-requires-clause-first g c =
    let d = c.args.self.now in
    let laws = paired (g.met.A.Anchored.is_anchored d.a) (g.met.A.Domain.keeps_laws d.a)
    (g.met.B.Domain.keeps_laws d.b) d.few in
    front-IsAbstract laws c.args.w c.args.p.now c.first.result c.first.ensures c.requires.first

pub join-x-requires-clause-second : goal.join-x-requires-clause-second
join-x-requires-clause-second g c =
    let d = c.args.self.now in
    let laws = paired (g.met.A.Anchored.is_anchored d.a) (g.met.A.Domain.keeps_laws d.a)
    (g.met.B.Domain.keeps_laws d.b) d.few in
    front-IsAbstract laws c.args.w c.args.q.now c.first-2.result c.first-2.ensures c.requires.second

pub join-y-requires-clause-first : goal.join-y-requires-clause-first
join-y-requires-clause-first g c =
    let d = c.args.self.now in
    let laws = paired (g.met.A.Anchored.is_anchored d.a) (g.met.A.Domain.keeps_laws d.a)
    (g.met.B.Domain.keeps_laws d.b) d.few in
    back-IsAbstract laws c.args.w c.args.p.now c.second.result c.second.ensures c.requires.first

pub join-y-requires-clause-second : goal.join-y-requires-clause-second
join-y-requires-clause-second g c =
    let d = c.args.self.now in
    let laws = paired (g.met.A.Anchored.is_anchored d.a) (g.met.A.Domain.keeps_laws d.a)
    (g.met.B.Domain.keeps_laws d.b) d.few in
    back-IsAbstract laws c.args.w c.args.q.now c.second-2.result c.second-2.ensures c.requires.second

pub joined-requires : goal.joined-requires
joined-requires g c =
    let d = c.args.self.now in
    let laws = paired (g.met.A.Anchored.is_anchored d.a) (g.met.A.Domain.keeps_laws d.a)
    (g.met.B.Domain.keeps_laws d.b) d.few in
    let width : IsWidth c.args.w = search rules in
    let x1 = front-IsAbstract laws c.args.w c.args.p.now c.first.result c.first.ensures c.requires.first in
    let x2 = front-IsAbstract laws c.args.w c.args.q.now c.first-2.result c.first-2.ensures c.requires.second in
    let y1 = back-IsAbstract laws c.args.w c.args.p.now c.second.result c.second.ensures c.requires.first in
    let y2 = back-IsAbstract laws c.args.w c.args.q.now c.second-2.result c.second-2.ensures c.requires.second in
    let x = (laws.first.joins_above c.args.w width c.first.result c.first-2.result x1 x2).value.tuple in
    let y = (laws.second.joins_above c.args.w width c.second.result c.second-2.result y1 y2).value.tuple in
    few_words laws c.args.w c.join-x.result c.join-y.result
    (rw c.join-x.ensures x) (rw c.join-y.ensures y)
