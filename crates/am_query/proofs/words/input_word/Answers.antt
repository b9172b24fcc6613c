use Rattle.std.proofs.Common.{◌≡◌, suc, ◌+◌, ◌-◌, ◌<◌, [], ◌∷◌, ◌++◌, length, length-append, replicate, append_assoc}
use Rattle.std.proofs.Common.{append-nil, ap, subst, ◌∙◌, arith}
use Rattle.am_gate.specs.Circuit.{Event.Input}
use Rattle.am_gate.specs.Build.{ask}
use Rattle.am_gate.proofs.Laws.{Follows-input, Grows-trans, HasInputs-input}
use Rattle.am_blast.specs.Words.{IsWord}
use Rattle.am_blast.proofs.Laws.{IsWord-later}
use Rattle.am_query.specs.Formulas.{input_word}
use Rattle.am_query.proofs.Calls.{Follows-turn, Follows-turns_end}
use Rattle.am_query.proofs.Tuples.{IsWord-snoc}
use Rattle.am_query.proofs.words.input_word.Goals as goal

pub loop-preserved : goal.loop-preserved
loop-preserved c =
    let inv = c.loop.invariant in
    let i = c.loop.counter in
    let here : i < c.args.w = omega (arith, c.loop-test.true, c.bits-end.ensures.value) in
    let step : c.args.w - i ≡ suc (c.args.w - (i + 1)) = omega (arith, here) in
    let made = Follows-input c.in_ok-l.ensures.ok.follows in
    let variable : c.variable.result ≡ c.loop.circuit.vars = omega (arith, c.variable.ensures, made.0) in
    let pushed : c.push.new.self ≡ c.loop.base ++ c.loop.circuit.vars ∷ [] =
    c.in_ok-push.ensures.ok ∙ ap (λ x. c.loop.base ++ x ∷ []) variable in
    record {
      place = omega (arith, here);
      follows = λ rest end h. rw (c.in_ok-push-2.ensures.ok, append_assoc)
          (inv.follows (c.in_ok-l.l ∷ rest) end
          (rw step (Follows-turn (replicate (c.args.w - (i + 1)) (ask Input)) c.in_ok-l.ensures.ok.follows h)));
      word = rw c.in_ok-push-2.ensures.ok
          (IsWord-snoc i _ c.loop.word c.in_ok-l.l
          (IsWord-later i _ _ c.loop.word c.in_ok-l.ensures.ok.grows.not_less inv.word) c.in_ok-l.ensures.ok.given);
      grows = Grows-trans _ inv.grows c.in_ok-l.ensures.ok.grows (omega arith);
      inputs = rw pushed (HasInputs-input inv.inputs c.in_ok-l.ensures.ok.follows);
      count = ap length pushed ∙ length-append c.loop.base (c.loop.circuit.vars ∷ []) ∙ omega (arith, inv.count);
    }

pub returns-clause-ok : goal.returns-clause-ok
unfolding input_word
returns-clause-ok c =
    let inv = c.loop.invariant in
    let i = c.loop.counter in
    let done : i ≡ c.args.w = omega (arith, c.loop-test.false, c.bits-end.ensures.value, inv.place) in
    let none : c.args.w - i ≡ 0 = omega (arith, done) in
    record {
      follows = rw append-nil at (inv.follows [] c.loop.circuit (rw none Follows-turns_end));
      given = subst (λ n. IsWord n c.loop.circuit.vars c.loop.word) done inv.word;
      grows = rw done at inv.grows;
    }
