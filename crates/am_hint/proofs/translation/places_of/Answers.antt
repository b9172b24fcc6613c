use Rattle.std.proofs.Common.{true, false, ◌≡◌, ◌-◌, [], length, take, refl, ◌∙◌, arith}
use Rattle.am_chain.specs.ChainLaws.{IsRisingBelow}
use Rattle.am_hint.specs.Hints.{status_of}
use Rattle.am_hint.specs.inside.Translated.{IsTakenBack, clauses_before, new_number}
use Rattle.am_hint.proofs.Earlier.{All-before, earlier_clause, earlier_numbered, earlier_within}
use Rattle.am_hint.proofs.CutChains.{first_there}
use Rattle.am_hint.proofs.Translating.{IsFalseAt, all_false, back_at, first_last, taken_back, taken_last, taken_length}
use Rattle.am_hint.proofs.translation.places_of.Goals as goal

pub loop-left-init : goal.loop-left-init
loop-left-init c =
    let k = c.args.checker.now in
    let count = length c.args.numbers.now.chains in
    let vars = c.args.row.now.vars in
    let rising = All-before k count (IsRisingBelow vars) c.requires.rising in
    let clause = c.requires.clause in
    let at = all_false vars (clauses_before k count) rising c.args.chain.now clause.0 clause.1 clause.2 in
    record {
      in_range = omega arith;
      short = rw c.new-by.ensures (omega arith);
      vars = refl;
      back = rw (c.len-left.ensures, clause.3) at;
      leads = λ hinted are more. rw c.new-by.ensures refl;
    }

pub of-requires : goal.of-requires
of-requires c =
    let k = c.args.checker.now in
    let count = length c.args.numbers.now.chains in
    let step = c.get.result.now in
    let n = back_at k count c.args.row.now.vars c.args.chain.now c.loop-left.left c.loop-left.row.literals step
    c.requires.rising c.loop-left-test.true c.get.ensures c.loop-left.invariant.back in
    omega (arith, earlier_numbered k count step.clause n.named n.there, c.requires.given)

pub clause-requires : goal.clause-requires
clause-requires c =
    let k = c.args.checker.now in
    let count = length c.args.numbers.now.chains in
    let step = c.get.result.now in
    let n = back_at k count c.args.row.now.vars c.args.chain.now c.loop-left.left c.loop-left.row.literals step
    c.requires.rising c.loop-left-test.true c.get.ensures c.loop-left.invariant.back in
    earlier_within k count step.clause n.named n.there

pub take_back-requires : goal.take_back-requires
take_back-requires c =
    let k = c.args.checker.now in
    let vars = c.args.row.now.vars in
    let count = length c.args.numbers.now.chains in
    let step = c.get.result.now in
    let n = back_at k count vars c.args.chain.now c.loop-left.left c.loop-left.row.literals step c.requires.rising
    c.loop-left-test.true c.get.ensures c.loop-left.invariant.back in
    let rising : IsRisingBelow vars c.clause.result.now =
    rw c.clause.ensures.value (c.requires.rising step.clause [] (earlier_within k count step.clause n.named n.there)) in
    rw c.loop-left.invariant.vars rising.below

pub returns-then-branch-clause-passes : goal.returns-then-branch-clause-passes
returns-then-branch-clause-passes c =
    let k = c.args.checker.now in
    let numbers = c.args.numbers.now in
    let count = length numbers.chains in
    let step = c.get.result.now in
    let row = c.loop-left.row.literals in
    let n = back_at k count c.args.row.now.vars c.args.chain.now c.loop-left.left c.loop-left.row.literals step
    c.requires.rising c.loop-left-test.true c.get.ensures c.loop-left.invariant.back in
    let named : c.clause.result.now ≡ n.named =
    c.clause.ensures.value ∙ earlier_clause k count step.clause n.named n.there in
    let taken : IsTakenBack (status_of row n.named) (new_number numbers step.clause) true c.loop-left.by
    c.take_back.new.by row c.take_back.new.row.literals =
    rw (named, c.of.ensures, c.if-branch.true) at c.in_ok-take_back.ensures.taken in
    taken_last k.given (take count k.derived) numbers c.requires.given c.args.chain.now (c.loop-left.left - 1)
    c.args.row.now.literals c.loop-left.by row c.loop-left.invariant.leads step n c.take_back.new.by
    c.take_back.new.row.literals taken

pub loop-left-preserved : goal.loop-left-preserved
loop-left-preserved c =
    let k = c.args.checker.now in
    let numbers = c.args.numbers.now in
    let count = length numbers.chains in
    let step = c.get.result.now in
    let row = c.loop-left.row.literals in
    let n = back_at k count c.args.row.now.vars c.args.chain.now c.loop-left.left c.loop-left.row.literals step
    c.requires.rising c.loop-left-test.true c.get.ensures c.loop-left.invariant.back in
    let named : c.clause.result.now ≡ n.named =
    c.clause.ensures.value ∙ earlier_clause k count step.clause n.named n.there in
    let taken : IsTakenBack (status_of row n.named) (new_number numbers step.clause) false c.loop-left.by
    c.take_back.new.by row c.take_back.new.row.literals =
    rw (named, c.of.ensures, c.if-branch.false) at c.in_ok-take_back.ensures.taken in
    let more = taken_back k.given (take count k.derived) numbers c.requires.given c.args.chain.now
    (c.loop-left.left - 1) c.args.row.now.literals c.loop-left.by row c.loop-left.invariant.leads step n
    c.take_back.new.by c.take_back.new.row.literals taken in
    record {
      in_range = omega arith;
      short = omega (
        arith,
        taken_length (status_of row n.named) (new_number numbers step.clause) false c.loop-left.by c.take_back.new.by
            row c.take_back.new.row.literals taken,
      );
      vars = c.take_back.ensures.vars ∙ c.loop-left.invariant.vars;
      back = more.back;
      leads = more.leads;
    }

pub of-requires-2 : goal.of-requires-2
of-requires-2 c =
    let k = c.args.checker.now in
    let count = length c.args.numbers.now.chains in
    let none : c.loop-left.left ≡ 0 = omega arith in
    let at : IsFalseAt (clauses_before k count) c.args.chain.now 0 c.loop-left.row.literals =
    rw none at c.loop-left.invariant.back in
    omega (
      arith,
      earlier_numbered k count c.args.chain.now.first at.current
          (first_there (clauses_before k count) c.args.chain.now at.current at.derived),
      c.requires.given,
    )

pub returns-clause-passes : goal.returns-clause-passes
returns-clause-passes c =
    let k = c.args.checker.now in
    let numbers = c.args.numbers.now in
    let count = length numbers.chains in
    let none : c.loop-left.left ≡ 0 = omega arith in
    let at : IsFalseAt (clauses_before k count) c.args.chain.now 0 c.loop-left.row.literals =
    rw none at c.loop-left.invariant.back in
    rw (c.in_ok-push.ensures.ok, c.of-2.ensures)
    (first_last k.given (take count k.derived) numbers c.requires.given c.args.chain.now c.args.row.now.literals
    c.loop-left.by c.loop-left.row.literals c.loop-left.invariant.leads at)
