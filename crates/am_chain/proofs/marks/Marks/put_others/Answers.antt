use Rattle.std.proofs.Common.{◌≡◌, ◌≢◌, get_or, take_all, refl, sym, ◌∙◌, inl, inr}
use Rattle.std.proofs.lemmas.Bool.{eqb-true, eqb-false}
use Rattle.am_lit.specs.Literal.{variable_of}
use Rattle.am_lit.proofs.Laws.{Contains-nil}
use Rattle.am_chain.proofs.Marking.{item, not_not, not_true, clash, others_more, seen_other, joined_wanted, seen_wanted}
use Rattle.am_chain.proofs.Marking.{opposite_there}
use Rattle.am_chain.proofs.marks.Marks.put_others.Goals as goal

pub loop-l-init : goal.loop-l-init
loop-l-init c = record {
  seen = record { found_iff = ((λ t. cc), (λ h. absurd (Contains-nil _ h))); none = Contains-nil _ };
  joined = λ m. ((λ t. inl t), (λ s. elim s [ inl a ↦ a | inr b ↦ absurd (Contains-nil m b.0) ]));
}

pub loop-l-preserved-then-variable : goal.loop-l-preserved-then-variable
loop-l-preserved-then-variable c =
    let i = c.loop-l.l-index in
    let l = c.l-item.result in
    let here : get_or c.args.clause.now i 0 ≡ l = item c.args.clause.now i l c.loop-l-test.true c.l-item.is in
    let ne : variable_of l ≢ variable_of c.args.wanted =
    (λ e. c.if-variable.true (c.variable.ensures ∙ e ∙ sym c.variable-in-loop-l.ensures)) in
    record {
      seen =
          seen_other c.args.wanted c.args.clause.now i c.loop-l-test.true c.loop-l.found l here ne
          c.loop-l.invariant.seen;
      joined =
          others_more c.args.wanted c.args.clause.now i c.loop-l-test.true c.args.self.now c.loop-l.self c.put.new.self
          l c.in_ok-put.ensures here ne c.loop-l.invariant.joined;
    }

pub loop-l-preserved : goal.loop-l-preserved
loop-l-preserved c =
    let i = c.loop-l.l-index in
    let same : c.l-item.result ≡ c.args.wanted = eqb-true _ _ (not_not _ (sym c.ne.ensures ∙ c.if-ne.false)) in
    let here : get_or c.args.clause.now i 0 ≡ c.args.wanted =
    item c.args.clause.now i c.l-item.result c.loop-l-test.true c.l-item.is ∙ same in
    record {
      seen =
          seen_wanted c.args.wanted c.args.clause.now i c.loop-l-test.true c.loop-l.found here c.loop-l.invariant.seen;
      joined =
          joined_wanted c.args.wanted c.args.clause.now i c.loop-l-test.true c.args.self.now c.loop-l.self here
          c.loop-l.invariant.joined;
    }

pub returns-then-ne-clause-alone : goal.returns-then-ne-clause-alone
returns-then-ne-clause-alone c =
    let i = c.loop-l.l-index in
    let l = c.l-item.result in
    let here : get_or c.args.clause.now i 0 ≡ l = item c.args.clause.now i l c.loop-l-test.true c.l-item.is in
    let same : variable_of l ≡ variable_of c.args.wanted =
    sym c.variable.ensures ∙ c.if-variable.false ∙ c.variable-in-loop-l.ensures in
    let ne : l ≢ c.args.wanted = eqb-false _ _ (not_true _ (λ t. clash _ c.if-ne.true (c.ne.ensures ∙ rw t refl))) in (
      (λ t. cc),
      (λ h. absurd (h.1 (opposite_there c.args.wanted c.args.clause.now i c.loop-l-test.true l here same ne))),
    )

pub returns-clause-alone : goal.returns-clause-alone
returns-clause-alone c =
    let seen = rw (take_all c.loop-l.l-index c.args.clause.now c.loop-l-test.false) at c.loop-l.invariant.seen in (
      (λ t. (seen.found_iff.0 t, seen.none)),
      (λ h. seen.found_iff.1 h.0),
    )

pub returns-clause-others : goal.returns-clause-others
returns-clause-others c = λ t.
    rw (take_all c.loop-l.l-index c.args.clause.now c.loop-l-test.false) at c.loop-l.invariant.joined
