use Rattle.std.proofs.Common.{◌≡◌, ◌∷◌, ◌++◌, [], ap, ◌∙◌}
use Rattle.am_chain.proofs.Marking.{kept_inside, kept_all, kept_is}
use Rattle.am_chain.proofs.marks.Marks.store.Goals as goal

pub invariant_of-self : goal.invariant_of-self
invariant_of-self c =
    let f = c.self.inside in
    let members = rw c.as_slice.ensures.value at c.put_in_order.ensures.members in (
      c.self.invariant.0,
      kept_inside f.marks.items f.touched.items c.put_in_order.new.touched.items c.self.invariant.1 c.self.invariant.2
          c.put_in_order.ensures.rises members,
      kept_all f.marks.items f.touched.items c.put_in_order.new.touched.items c.self.invariant.1 c.self.invariant.2
          c.put_in_order.ensures.rises members,
    )

pub invariant_of-self-2 : goal.invariant_of-self-2
invariant_of-self-2 c =
    let f = c.self.inside in
    let members = rw c.as_slice.ensures.value at c.put_in_order.ensures.members in (
      c.self.invariant.0,
      kept_inside f.marks.items f.touched.items c.put_in_order.new.touched.items c.self.invariant.1 c.self.invariant.2
          c.put_in_order.ensures.rises members,
      kept_all f.marks.items f.touched.items c.put_in_order.new.touched.items c.self.invariant.1 c.self.invariant.2
          c.put_in_order.ensures.rises members,
    )

pub returns-clause-ok : goal.returns-clause-ok
returns-clause-ok c = λ clause are.
    let f = c.self.inside in
    let members = rw c.as_slice.ensures.value at c.put_in_order.ensures.members in
    let is : c.put_in_order.new.touched.items ≡ clause =
    kept_is f.marks.items f.touched.items c.put_in_order.new.touched.items c.self.invariant.1 c.self.invariant.2
    c.put_in_order.ensures.rises members clause (rw (← c.self.view_is) at are) in
    c.in_ok-push.ensures.ok ∙ ap (λ x. c.args.clauses.now ++ x ∷ []) (c.as_slice-2.ensures.value ∙ is)
