use Rattle.std.proofs.Common.{◌<◌, length, length-set, arith}
use Rattle.am_chain.proofs.Marking.{put_in_range, put_touched}
use Rattle.am_chain.proofs.marks.Marks.put.Goals as goal

pub invariant_of-self-then-not-index : goal.invariant_of-self-then-not-index
invariant_of-self-then-not-index c =
    let f = c.self.inside in
    let marks = c.cover.new.marks.items in
    let inside : c.code-code.result < length marks = omega (arith, c.in_ok-cover.ensures.room) in (
      rw length-set (omega (arith, c.in_ok-cover.ensures.length, c.self.invariant.0)),
      put_in_range f.marks.items marks f.touched.items c.push.new.self.items c.code-code.result c.args.l
          c.code-code.ensures c.in_ok-push.ensures.items inside c.in_ok-cover.ensures.longer c.in_ok-cover.ensures.same
          c.self.invariant.1 c.self.invariant.2,
      put_touched f.marks.items marks f.touched.items c.push.new.self.items c.code-code.result c.args.l
          c.code-code.ensures c.in_ok-push.ensures.items inside c.in_ok-cover.ensures.longer c.in_ok-cover.ensures.same
          c.self.invariant.1 c.self.invariant.2,
    )
