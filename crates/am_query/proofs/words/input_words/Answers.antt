use Rattle.std.proofs.Common.{◌≡◌, suc, ◌+◌, ◌-◌, [], ◌∷◌, replicate, append_assoc, append-nil, subst, arith}
use Rattle.am_gate.proofs.Laws.{Grows-trans}
use Rattle.am_query.specs.Formulas.{input_word, input_words}
use Rattle.am_query.specs.inside.Words.{AreWordsIn}
use Rattle.am_query.proofs.Calls.{Follows-turn, Follows-turns_end}
use Rattle.am_query.proofs.Tuples.{AreWordsIn-later, AreWordsIn-snoc}
use Rattle.am_query.proofs.words.input_words.Goals as goal

pub loop-preserved : goal.loop-preserved
loop-preserved c =
    let inv = c.loop.invariant in
    let i = c.loop.counter in
    let step : c.args.count - i ≡ suc (c.args.count - (i + 1)) = omega (arith, c.loop-test.true) in
    let word = c.in_ok-word.ensures in
    record {
      place = omega (arith, c.loop-test.true);
      follows = λ rest end h. rw (c.in_ok-push.ensures.ok, append_assoc)
          (inv.follows (c.in_ok-word.word ∷ rest) end
          (rw step (Follows-turn (replicate (c.args.count - (i + 1)) (input_word c.args.w)) word.ok.follows h)));
      words = rw c.in_ok-push.ensures.ok
          (AreWordsIn-snoc c.args.w i _ c.loop.words c.in_ok-word.word
          (AreWordsIn-later c.args.w i _ _ c.loop.words word.ok.grows.not_less inv.words) word.ok.given);
      grows = Grows-trans _ inv.grows word.ok.grows (omega arith);
      inputs = word.inputs;
      count = omega (arith, word.count, inv.count);
    }

pub returns-clause-ok : goal.returns-clause-ok
unfolding input_words
returns-clause-ok c =
    let inv = c.loop.invariant in
    let i = c.loop.counter in
    let done : i ≡ c.args.count = omega (arith, c.loop-test.false, inv.place) in
    let none : c.args.count - i ≡ 0 = omega (arith, done) in
    record {
      follows = rw append-nil at (inv.follows [] c.loop.circuit (rw none Follows-turns_end));
      given = subst (λ n. AreWordsIn c.args.w n c.loop.circuit.vars c.loop.words) done inv.words;
      grows = rw done at inv.grows;
    }
