use Rattle.std.proofs.Common.{◌≡◌, [], ◌∷◌, length, append_assoc, append-nil, ap, subst, arith}
use Rattle.std.proofs.lemmas.List.{take_all}
use Rattle.std.proofs.lemmas.List.Sums.{sum_by_more}
use Rattle.am_gate.proofs.Laws.{Grows-trans}
use Rattle.am_bv.specs.Terms.{weight}
use Rattle.am_blast.specs.Circuits.{blasted}
use Rattle.am_blast.proofs.Laws.{Follows-in_turn_at, Follows-in_turn_end}
use Rattle.am_query.specs.inside.Words.{AreWordsIn}
use Rattle.am_query.proofs.Tuples.{AreWordsIn-later, AreWordsIn-snoc}
use Rattle.am_query.proofs.words.blast_all.Goals as goal

pub loop-term-preserved : goal.loop-term-preserved
loop-term-preserved c =
    let inv = c.loop-term.invariant in
    let i = c.loop-term.term-index in
    let terms = c.args.terms.now in
    let word = c.in_ok-word.ensures.ok in
    record {
      follows = λ rest end h. rw (c.in_ok-push.ensures.ok, append_assoc)
          (inv.follows (c.in_ok-word.word ∷ rest) end
          (Follows-in_turn_at (blasted c.args.w c.args.fields.now) i c.term-item.result terms _ _ _ _ _
          c.loop-term-test.true c.term-item.is word.follows h));
      words = rw c.in_ok-push.ensures.ok
          (AreWordsIn-snoc c.args.w i _ c.loop-term.words c.in_ok-word.word
          (AreWordsIn-later c.args.w i _ _ c.loop-term.words word.grows.not_less inv.words) word.given);
      grows = Grows-trans _ inv.grows word.grows
          (omega (
            arith,
            sum_by_more (weight c.args.w) terms i c.term-item.result c.loop-term-test.true,
            ap (weight c.args.w) c.term-item.is,
          ));
    }

pub returns : goal.returns
returns c =
    let inv = c.loop-term.invariant in
    let i = c.loop-term.term-index in
    let terms = c.args.terms.now in
    let done : i ≡ length terms = omega (arith, c.loop-term-test.false, c.loop-term.auto.term-index-end) in
    record {
      follows = rw append-nil at
          (inv.follows [] c.loop-term.circuit
          (Follows-in_turn_end (blasted c.args.w c.args.fields.now) i terms c.loop-term.circuit
          c.loop-term-test.false));
      given = subst (λ n. AreWordsIn c.args.w n c.loop-term.circuit.vars c.loop-term.words) done inv.words;
      grows = rw (take_all _ _ c.loop-term-test.false) at inv.grows;
    }
