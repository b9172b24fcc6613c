use Rattle.std.proofs.Common.{◌≡◌, ap, [], ◌∷◌, length, length-append, arith}
use Rattle.am_lit.proofs.Cut.{IsCut-pushed, rows-pushed, length_rows}
use Rattle.am_lit.proofs.clauses.Clauses.push.Goals as goal

pub invariant_of-self-in_default-push : goal.invariant_of-self-in_default-push
invariant_of-self-in_default-push c =
    let f = c.self.inside in
    let end : c.in-Ok.end ≡ length c.extend_from_slice.new.self.items = omega (
      arith,
      c.in-Ok.ensures,
      ap length c.in_ok-extend_from_slice.ensures.items,
      length-append f.lits.items c.args.lits.now,
      c.len-start.ensures,
      f.lits.ok.0,
    ) in (
      omega (
        arith,
        ap length c.in_default-push.ensures.items,
        length_rows 0 f.ends.items f.lits.items,
        ap length c.self.view_is,
        length-append f.ends.items (c.in-Ok.end ∷ []),
      ),
      IsCut-pushed f.ends.items f.lits.items c.args.lits.now _ _ c.in-Ok.end c.in_default-push.ensures.items
          c.in_ok-extend_from_slice.ensures.items end c.self.invariant.1,
    )

pub returns-clause-ok : goal.returns-clause-ok
returns-clause-ok c =
    let f = c.self.inside in
    let end : c.in-Ok.end ≡ length c.extend_from_slice.new.self.items = omega (
      arith,
      c.in-Ok.ensures,
      ap length c.in_ok-extend_from_slice.ensures.items,
      length-append f.lits.items c.args.lits.now,
      c.len-start.ensures,
      f.lits.ok.0,
    ) in
    rw (← c.self.view_is)
    (rows-pushed f.ends.items f.lits.items c.args.lits.now c.push.new.self.items c.extend_from_slice.new.self.items
    c.in-Ok.end c.in_default-push.ensures.items c.in_ok-extend_from_slice.ensures.items end c.self.invariant.1)
