use Rattle.std.proofs.Common.{◌≡◌, ◌+◌, eqb, inl, inr, arith, length-append, [], ◌∷◌}
use Rattle.std.proofs.lemmas.Bool.{eqb-true, eq-eqb}
use Rattle.am_lit.proofs.Laws.{same_or}
use Rattle.am_chain.proofs.Needing.{push_mark}
use Rattle.am_chain.proofs.trimming.last_alone.Goals as goal

pub loop-k-preserved : goal.loop-k-preserved
loop-k-preserved c =
    let marks = c.loop-k.marks.items in
    let k = c.loop-k.k in
    let b = eqb (k + 1) c.args.len in
    let inv = c.loop-k.invariant in
    rw c.in_ok-push.ensures.items (record {
      len = omega (arith, length-append marks (b ∷ []), inv.len);
      last = λ i. (
        (λ t. elim ((push_mark marks b i).0 t) [
          | inl a ↦ let h = (inv.last i).0 a in (h.0, omega (arith, h.1))
          | inr h ↦
              let e : k + 1 ≡ c.args.len = eqb-true (k + 1) c.args.len h.1 in
              (omega (arith, h.0, inv.len, e), omega (arith, h.0, inv.len))
        ]),
        (λ h. (push_mark marks b i).1 (elim (same_or i k) [
          | inl e ↦ inr (omega (arith, e, inv.len), eq-eqb (k + 1) c.args.len (omega (arith, e, h.0)))
          | inr ne ↦ inl ((inv.last i).1 (h.0, omega (arith, ne, h.1)))
        ])),
      );
    })

pub returns-clause-last : goal.returns-clause-last
returns-clause-last c = λ i.
    let h = c.loop-k.invariant.last i in ((λ t. (h.0 t).0), (λ e. h.1 (e, omega (arith, e, c.loop-k-test.false))))
