use Rattle.std.proofs.Common.{◌≡◌, ◌+◌, ◌≤◌, ◌^◌, true, false, [], ◌∷◌, ◌++◌, length, refl, sym, ap, ◌∙◌, arith}
use Rattle.am_chain.specs.ChainLaws.{IsRisingBelow}
use Rattle.am_chain.specs.Checked.{all_clauses}
use Rattle.am_chain.proofs.Laws.{chain_below}
use Rattle.am_hint.specs.declared.hint.Hint.{Hint}
use Rattle.am_hint.specs.Hints.{is_normal}
use Rattle.am_hint.proofs.Apart.{normal_consistent, not_normal}
use Rattle.am_hint.proofs.Earlier.{newest_clause}
use Rattle.am_hint.proofs.Growing.{All-with_clause, before_newest, hint_added, hint_passes, left_out}
use Rattle.am_hint.proofs.translation.Translation.add.Goals as goal

pub returns-then-not-is_normal-clause-translated : goal.returns-then-not-is_normal-clause-translated
returns-then-not-is_normal-clause-translated c =
    let k = c.args.self.now.checker in
    let vars = c.args.self.now.formula.now.vars in
    let numbers = c.args.self.now.numbers in
    let added = c.in_ok-replay.ensures in
    let name = c.len-3.result + c.len-4.result in
    let at : name ≡ length k.given + length k.derived =
    omega (arith, c.len-3.ensures, c.len-4.ensures, ap length c.requires.given, c.requires.translated.moved.long) in
    let here =
    newest_clause k c.replay.new.checker added.0 c.clause.result.now name added.2 at c.clause.ensures.value in
    let codes : c.as_slice.result.now ≡ added.0 = c.as_slice.ensures ∙ c.in_ok-codes.ensures ∙ here in
    let twice : is_normal vars added.0 ≡ false =
    sym (ap (is_normal vars) codes) ∙ sym c.is_normal.ensures ∙ c.if-not-is_normal.true in
    let ordered = chain_below vars (all_clauses k) c.requires.rising c.args.chain.now added.0 added.1 in
    rw (added.2, c.in_ok-push.ensures)
    (left_out vars k numbers c.args.self.now.hints c.requires.translated added.0 (c.len.result + c.len-2.result)
    (not_normal vars added.0 ordered twice))

pub deny-requires-clause-below : goal.deny-requires-clause-below
deny-requires-clause-below c =
    let k = c.args.self.now.checker in
    let vars = c.args.self.now.formula.now.vars in
    let added = c.in_ok-replay.ensures in
    let name = c.len-3.result + c.len-4.result in
    let at : name ≡ length k.given + length k.derived =
    omega (arith, c.len-3.ensures, c.len-4.ensures, ap length c.requires.given, c.requires.translated.moved.long) in
    let here =
    newest_clause k c.replay.new.checker added.0 c.clause-2.result.now name added.2 at c.clause-2.ensures.value in
    let ordered = chain_below vars (all_clauses k) c.requires.rising c.args.chain.now added.0 added.1 in
    rw (here, c.clear.ensures, c.requires.vars) ordered.below

pub places_of-requires-clause-rising : goal.places_of-requires-clause-rising
places_of-requires-clause-rising c =
    let k = c.args.self.now.checker in
    let vars = c.args.self.now.formula.now.vars in
    let added = c.in_ok-replay.ensures in
    let ordered = chain_below vars (all_clauses k) c.requires.rising c.args.chain.now added.0 added.1 in
    rw (added.2, c.deny.ensures.vars, c.clear.ensures, c.requires.vars)
    (All-with_clause (IsRisingBelow vars) k added.0 c.requires.rising ordered)

pub places_of-requires-clause-clause : goal.places_of-requires-clause-clause
places_of-requires-clause-clause c =
    let k = c.args.self.now.checker in
    let vars = c.args.self.now.formula.now.vars in
    let added = c.in_ok-replay.ensures in
    let name = c.len-3.result + c.len-4.result in
    let at : name ≡ length k.given + length k.derived =
    omega (arith, c.len-3.ensures, c.len-4.ensures, ap length c.requires.given, c.requires.translated.moved.long) in
    let here =
    newest_clause k c.replay.new.checker added.0 c.clause.result.now name added.2 at c.clause.ensures.value in
    let denied =
    newest_clause k c.replay.new.checker added.0 c.clause-2.result.now name added.2 at c.clause-2.ensures.value in
    let codes : c.as_slice.result.now ≡ added.0 = c.as_slice.ensures ∙ c.in_ok-codes.ensures ∙ here in
    let normal : is_normal vars added.0 ≡ true =
    sym (ap (is_normal vars) codes) ∙ sym c.is_normal.ensures ∙ c.if-not-is_normal.false in (
      added.0,
      rw
          (before_newest vars k c.replay.new.checker c.args.self.now.numbers c.args.self.now.hints c.requires.translated
          added.0 added.2)
          added.1,
      normal_consistent vars added.0 normal,
      rw denied at c.in_ok-deny.ensures.row,
    )

pub returns-clause-translated : goal.returns-clause-translated
returns-clause-translated c =
    let k = c.args.self.now.checker in
    let vars = c.args.self.now.formula.now.vars in
    let numbers = c.args.self.now.numbers in
    let hints = c.args.self.now.hints in
    let added = c.in_ok-replay.ensures in
    let name = c.len-3.result + c.len-4.result in
    let at : name ≡ length k.given + length k.derived =
    omega (arith, c.len-3.ensures, c.len-4.ensures, ap length c.requires.given, c.requires.translated.moved.long) in
    let here =
    newest_clause k c.replay.new.checker added.0 c.clause.result.now name added.2 at c.clause.ensures.value in
    let denied =
    newest_clause k c.replay.new.checker added.0 c.clause-2.result.now name added.2 at c.clause-2.ensures.value in
    let is : c.in_ok-codes.codes ≡ added.0 = c.in_ok-codes.ensures ∙ here in
    let codes : c.as_slice.result.now ≡ added.0 = c.as_slice.ensures ∙ is in
    let normal : is_normal vars added.0 ≡ true =
    sym (ap (is_normal vars) codes) ∙ sym c.is_normal.ensures ∙ c.if-not-is_normal.false in
    let row = rw denied at c.in_ok-deny.ensures.row in
    let hint : Hint = record { clause = added.0; by = c.in_ok-by.by } in
    let passes = hint_passes vars k c.replay.new.checker numbers hints c.requires.translated added.0 added.2
    c.deny.new.row.literals c.in_ok-by.by row normal c.in_ok-by.ensures.passes in
    let number : c.len.result + c.len-2.result ≡ length k.given + length hints =
    omega (arith, c.len.ensures, c.len-2.ensures, ap length c.requires.given) in
    let short : length c.in_ok-by.by ≤ 2 ^ 30 = omega (arith, c.in_ok-by.ensures.short, c.requires.steps) in
    let pushed : c.push-2.new.self ≡ hints ++ hint ∷ [] = rw is at c.in_ok-push-2.ensures.ok in
    rw (added.2, pushed, c.in_ok-push-3.ensures)
    (hint_added vars k numbers hints c.requires.translated added.0 (c.len.result + c.len-2.result) hint refl number
    passes short)
