use Rattle.std.proofs.Common.{◌≡◌, suc, ◌+◌, ◌-◌, ◌*◌, ◌<◌, take, drop, ◌∙◌, arith}
use Rattle.std.proofs.lemmas.List.{drop_all}
use Rattle.am_gate.proofs.Laws.{Grows-trans}
use Rattle.am_blast.proofs.Laws.{drop-from}
use Rattle.am_problem.specs.Kinds.{fields_of}
use Rattle.am_query.proofs.Calls.{Follows-paired, Follows-paired_end}
use Rattle.am_query.proofs.Tuples.{AreWordsIn-later, other-words}
use Rattle.am_query.proofs.statements.Statements.members.Goals as goal

pub loop-word-preserved : goal.loop-word-preserved
loop-word-preserved c =
    let p = c.args.self.now in
    let k = fields_of p.kind in
    let i = c.loop-word.word-index in
    let m = p.inputs - (i + 1) in
    let words = c.args.words.now in
    let row = c.loop-word.rest.now in
    let inv = c.loop-word.invariant in
    let count : c.fields-count.result ≡ k = rw (c.kind.ensures, c.self.view_is) at c.fields-count.ensures.value in
    let here : i < p.inputs = omega (arith, c.loop-word-test.true, c.requires.words.many) in
    let step : p.inputs - i ≡ suc m = omega (arith, here) in
    let rest = rw step at inv.rest in
    let front : c.split_at.result.0.now ≡ take k row = rw count at c.split_at.ensures.front in
    let back : c.split_at.result.1.now ≡ drop k row = rw count at c.split_at.ensures.back in
    let tuple : c.in_ok-tuple.tuple ≡ take k row = c.in_ok-tuple.ensures ∙ front in
    let word : c.in_ok-word.word ≡ c.word-item.result = c.in_ok-word.ensures ∙ c.as_slice.ensures in
    let stated = rw (tuple, word) at c.in_ok-admit.ensures in
    record {
      follows = λ last h. inv.follows last
          (rw (step, drop-from i c.word-item.result words c.loop-word-test.true c.word-item.is)
          (Follows-paired _ k m row c.word-item.result (drop (i + 1) words) stated.follows (rw back at h)));
      rest =
          rw back
          (AreWordsIn-later p.width (m * k) _ _ (drop k row) stated.grows.not_less
          (other-words p.width k m _ row rest));
      grows = Grows-trans _ inv.grows stated.grows (omega arith);
    }

pub returns : goal.returns
returns c =
    let p = c.args.self.now in
    let i = c.loop-word.word-index in
    let inv = c.loop-word.invariant in
    let done : i ≡ p.inputs =
    omega (arith, c.loop-word-test.false, c.loop-word.auto.word-index-end, c.requires.words.many) in
    let none : p.inputs - i ≡ 0 = omega (arith, done) in
    record {
      follows = inv.follows c.loop-word.circuit
          (rw (none, drop_all i c.args.words.now c.loop-word-test.false)
          (Follows-paired_end _ (fields_of p.kind) c.loop-word.rest.now));
      given = tt;
      grows = rw done at inv.grows;
    }
