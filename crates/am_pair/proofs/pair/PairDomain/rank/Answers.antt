use Rattle.std.proofs.Common.{arith, rules}
use Rattle.am_bv.specs.Words.{IsWidth}
use Rattle.am_pair.specs.lemmas.Parts.{paired, front-IsAbstract, back-IsAbstract}
use Rattle.am_pair.proofs.Ranks.{ranks-fit}
use Rattle.am_pair.proofs.pair.PairDomain.rank.Goals as goal

pub rank-requires : goal.rank-requires
rank-requires g c =
    let d = c.args.self.now in
    let laws = paired (g.met.A.Anchored.is_anchored d.a) (g.met.A.Domain.keeps_laws d.a)
    (g.met.B.Domain.keeps_laws d.b) d.few in
    front-IsAbstract laws c.args.w c.args.p.now c.first.result c.first.ensures c.requires

pub rank-requires-2 : goal.rank-requires-2
rank-requires-2 g c =
    let d = c.args.self.now in
    let laws = paired (g.met.A.Anchored.is_anchored d.a) (g.met.A.Domain.keeps_laws d.a)
    (g.met.B.Domain.keeps_laws d.b) d.few in
    back-IsAbstract laws c.args.w c.args.p.now c.second.result c.second.ensures c.requires

pub overflow_add-result : goal.overflow_add-result
overflow_add-result g c =
    let d = c.args.self.now in
    let laws = paired (g.met.A.Anchored.is_anchored d.a) (g.met.A.Domain.keeps_laws d.a)
    (g.met.B.Domain.keeps_laws d.b) d.few in
    let width : IsWidth c.args.w = search rules in
    let first = front-IsAbstract laws c.args.w c.args.p.now c.first.result c.first.ensures c.requires in
    let second = back-IsAbstract laws c.args.w c.args.p.now c.second.result c.second.ensures c.requires in
    let sum = ranks-fit c.args.w _ _ c.rank.result c.rank-2.result width.1 laws.walks.has_two_fields d.few
    (rw c.rank.ensures (laws.first.descends.most c.args.w width c.first.result first))
    (rw c.rank-2.ensures (laws.second.descends.most c.args.w width c.second.result second)) in
    omega (arith, sum)
