use Rattle.std.proofs.Common.{◌≡◌, ℕ, ◌+◌, ◌<◌, ◌≤◌, List, [], ◌∷◌, length, length-append, take, sum_by, get_or, IsTrue}
use Rattle.std.proofs.Common.{rules, ap, subst, ◌∙◌, arith, append_assoc, append-nil}
use Rattle.std.specs.Prelude.{slice_index_or}
use Rattle.std.proofs.lemmas.Bool.{ltb-true}
use Rattle.std.proofs.lemmas.List.{take_all, get_or_default}
use Rattle.std.proofs.lemmas.List.Sums.{sum_by_more, sum_by_more_le}
use Rattle.std.proofs.lemmas.List.Elements.{All-push}
use Rattle.std.proofs.lemmas.Result.{IfOk-weaker}
use Rattle.am_gate.proofs.Laws.{Follows-bind, Grows-trans, Begins-trans, HasRoom-grown, GivesStep-answer}
use Rattle.am_bv.specs.Operators.{weight_of}
use Rattle.am_bv.specs.Terms.{fits, nodes, weight}
use Rattle.am_bv.specs.declared.term.Term.{the_lemmas}
use Rattle.am_bv.proofs.Laws.{fits-Field, fits_arity, fits_child, nodes_up_to, weight-Const, weight-Field, weight-Node}
use Rattle.am_blast.specs.Words.{IsWord, constant}
use Rattle.am_blast.specs.Circuits.{blasted}
use Rattle.am_blast.proofs.Words.{IsWord-later}
use Rattle.am_blast.proofs.Blasted.{blasted-Const, blasted-Field, blasted-Node, length-constant, All-constant}
use Rattle.am_blast.proofs.Blasted.{Follows-in_turn_at, Follows-in_turn_end}
use Rattle.am_blast.proofs.terms.+word_of.Goals as goal

pub bounds-fields-i : goal.bounds-fields-i
bounds-fields-i t c =
    let fit = subst (λ x. IsTrue (fits c.args.w (length c.args.fields.now) x)) c.in-Field.is c.requires.fits in
    ltb-true _ _ (subst IsTrue (fits-Field c.args.w (length c.args.fields.now) c.in-Field.i) fit)

pub word_of-requires : goal.word_of-requires
word_of-requires t c =
    let op = c.in-Node.op in
    let args = c.in-Node.args in
    let i = c.loop-t.t-index in
    let item = c.t-item.result in
    let at : item ≡ get_or args i item = cc in
    let below : i < length args = rw c.as_slice-t-items.ensures at c.loop-t-test.true in
    let node = subst (λ x. IsTrue (fits c.args.w (length c.args.fields.now) x)) c.in-Node.is c.requires.fits in
    let few = nodes_up_to op args i item below at in
    let part : sum_by (weight c.args.w) (take i args) + weight c.args.w item ≤ weight c.args.w c.args.term.now =
    omega (
      arith,
      sum_by_more_le (weight c.args.w) args i item below,
      ap (weight c.args.w) at,
      weight-Node c.args.w op args,
      ap (weight c.args.w) c.in-Node.is,
    ) in
    let grows = rw c.as_slice-t-items.ensures at c.loop-t.invariant.grows in (
      search (rules, the_lemmas),
      (
        fits_child _ _ op args node i item below at,
        (
          omega (arith, few, ap nodes c.in-Node.is, c.requires.nodes),
          (
            λ k d l. IsWord-later _ _ _ _ grows.not_less (c.requires.fields k d l),
            (
              HasRoom-grown (weight c.args.w item) grows c.requires.room part,
              omega (arith, grows.not_less, c.requires.truth),
            ),
          ),
        ),
      ),
    )

pub loop-t-preserved : goal.loop-t-preserved
loop-t-preserved t c = record {
  follows = λ rest end h. rw (c.in_ok-push-in-Node.ensures.ok, append_assoc)
      (c.loop-t.invariant.follows (c.in_ok-word-in-Node.word ∷ rest) end
      (Follows-in_turn_at (blasted c.args.w c.args.fields.now) c.loop-t.t-index c.t-item.result
      c.as_slice-t-items.result.now _ _ _ _ _
      c.loop-t-test.true c.t-item.is c.in_ok-word-in-Node.ensures.ok.follows h));
  count =
      ap length c.in_ok-push-in-Node.ensures.ok ∙ length-append c.loop-t.words (c.in_ok-word-in-Node.word ∷ [])
      ∙ ap (λ k. k + 1) c.loop-t.invariant.count;
  words = rw c.in_ok-push-in-Node.ensures.ok
      (All-push (IsWord c.args.w c.word_of.new.circuit.vars) c.loop-t.words c.in_ok-word-in-Node.word
      (λ k d l. IsWord-later _ _ _ _ c.in_ok-word-in-Node.ensures.ok.grows.not_less (c.loop-t.invariant.words k d l))
      c.in_ok-word-in-Node.ensures.ok.given);
  grows = Grows-trans _ c.loop-t.invariant.grows c.in_ok-word-in-Node.ensures.ok.grows
      (omega (
        arith,
        sum_by_more (weight c.args.w) c.as_slice-t-items.result.now c.loop-t.t-index c.t-item.result
            c.loop-t-test.true,
        ap (weight c.args.w) c.t-item.is,
      ));
  begins = Begins-trans c.loop-t.invariant.begins c.in_ok-word-in-Node.ensures.begins;
}

pub apply-requires-clause-count : goal.apply-requires-clause-count
apply-requires-clause-count t c =
    let node = subst (λ x. IsTrue (fits c.args.w (length c.args.fields.now) x)) c.in-Node.is c.requires.fits in
    let count = fits_arity _ _ c.in-Node.op c.in-Node.args node in
    let items = ap length c.as_slice-t-items.ensures in
    let words = ap length c.as_slice-in-Node.ensures in
    omega (arith, words, items, count, c.loop-t.invariant.count, c.loop-t-test.false, c.loop-t.auto.t-index-end)

pub apply-requires-clause-room : goal.apply-requires-clause-room
apply-requires-clause-room t c =
    let all = take_all _ _ c.loop-t-test.false in
    let grows = rw (all, c.as_slice-t-items.ensures) at c.loop-t.invariant.grows in
    HasRoom-grown (weight_of c.args.w c.in-Node.op) grows c.requires.room
    (omega (arith, weight-Node c.args.w c.in-Node.op c.in-Node.args, ap (weight c.args.w) c.in-Node.is))

pub returns-in-Const-clause-ok : goal.returns-in-Const-clause-ok
returns-in-Const-clause-ok t c =
    rw (c.in-Const.is, blasted-Const c.args.w c.args.fields.now c.in-Const.c, weight-Const c.args.w c.in-Const.c)
    (IfOk-weaker c.constant.result (λ r. r ≡ constant c.args.w c.in-Const.c) _
    (λ r e. rw e (GivesStep-answer
    (record {
      bits = length-constant c.args.w c.in-Const.c;
      inside = All-constant c.args.w c.in-Const.c c.args.circuit.now.vars c.requires.truth;
    })))
    c.constant.ensures)

pub returns-in-Field-clause-ok : goal.returns-in-Field-clause-ok
returns-in-Field-clause-ok t c =
    let fields : List (List ℕ) = c.args.fields.now in
    let within : c.in-Field.i < length fields =
    (let fit = subst (λ x. IsTrue (fits c.args.w (length fields) x)) c.in-Field.is c.requires.fits in
    ltb-true _ _ (subst IsTrue (fits-Field c.args.w (length fields) c.in-Field.i) fit)) in
    let word = slice_index_or fields c.in-Field.i [] in
    let here : c.as_slice.result.now ≡ word =
    c.as_slice.ensures
    ∙ (c.index-fields-i.is ∙ get_or_default fields c.in-Field.i c.index-fields-i.result [] within) in
    rw (c.in-Field.is, blasted-Field c.args.w fields c.in-Field.i, weight-Field c.args.w c.in-Field.i)
    (IfOk-weaker c.copied.result (λ r. r ≡ c.as_slice.result.now) _
    (λ r e. rw (e, here) (GivesStep-answer (c.requires.fields c.in-Field.i [] within)))
    c.copied.ensures)

pub returns-after-loop-t-clause-ok : goal.returns-after-loop-t-clause-ok
returns-after-loop-t-clause-ok t c =
    let op = c.in-Node.op in
    let args = c.in-Node.args in
    let all = take_all _ _ c.loop-t-test.false in
    let grows = rw (all, c.as_slice-t-items.ensures) at c.loop-t.invariant.grows in
    let follows = rw (append-nil, c.as_slice-t-items.ensures) at (c.loop-t.invariant.follows _ c.loop-t.circuit
    (Follows-in_turn_end (blasted c.args.w c.args.fields.now) c.loop-t.t-index c.as_slice-t-items.result.now
    c.loop-t.circuit c.loop-t-test.false)) in
    rw (c.in-Node.is, blasted-Node c.args.w c.args.fields.now op args, weight-Node c.args.w op args)
    (IfOk-weaker c.apply.result _ _
    (λ r g. record {
      follows = Follows-bind _ follows (rw c.as_slice-in-Node.ensures at g.follows);
      given = g.given;
      grows = Grows-trans _ grows g.grows (omega arith);
    })
    c.apply.ensures.ok)
