use Rattle.std.proofs.Common.{◌≡◌, ◌+◌, [], get_or, refl, sym, subst, arith}
use Rattle.am_problem.specs.Kinds.{fields_of}
use Rattle.am_all.specs.declared.word_set.WordSet.{WordSet}
use Rattle.am_all.specs.inside.Numbers.{words_at}
use Rattle.am_all.specs.inside.Values.{IsMemberSet}
use Rattle.am_all.proofs.ValueLaws.{Found, found_valid, found_invalid, found_all}
use Rattle.am_all.proofs.values.abstract_values.Goals as goal
use Rattle.am_all.proofs.values.abstract_values.Goals.{then-valid+in_ok-push, else-valid}

pub loop-number-preserved : goal.loop-number-preserved
loop-number-preserved c =
    let p = c.args.p.now in
    let number = c.loop-number.number in
    let is : c.tuple_at-fields.result ≡ words_at p.width (fields_of p.kind) number =
    rw (c.width-w.ensures, c.fields.ensures.value, c.kind-kind.ensures) at c.tuple_at-fields.ensures.value in
    let set : WordSet = get_or c.args.sets.now number (record { parts = [] }) in
    elim c.if-valid.branch [
      | then-valid+in_ok-push w ↦
          subst (λ values. Found p values (number + 1)) (sym w.values-is)
          (rw w.in_ok-push.ensures.ok (found_valid p c.loop-number.values number _ c.loop-number.invariant
          (record {
            value = record {
              tuple = rw (c.width-w.ensures, c.fields.ensures.value, c.kind-kind.ensures) at
                  c.tuple_at-fields.ensures.tuple;
              valid =
                  rw (c.kind-kind.ensures, c.width-w.ensures) at (w.if-valid.ensures.0 refl);
            };
            members = subst (λ a. IsMemberSet p a set) (sym is)
                (c.requires.sets.each number (record { parts = [] }) c.loop-number-test.true);
          }) is))
      | else-valid w ↦
          subst (λ values. Found p values (number + 1)) (sym w.values-is)
          (found_invalid p c.loop-number.values number c.loop-number.invariant
          (λ valid. let no = w.if-valid.ensures.1 (rw (c.kind-kind.ensures, c.width-w.ensures, is) valid) in cc))
    ]

pub returns : goal.returns
returns c = found_all c.args.p.now c.loop-number.values c.loop-number.number c.loop-number.invariant
    (omega (arith, c.loop-number-test.false, c.requires.sets.counted))
