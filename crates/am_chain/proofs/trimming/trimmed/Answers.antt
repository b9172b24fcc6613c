use Rattle.std.proofs.Common.{◌≡◌, [], length, arith}
use Rattle.am_chain.specs.Trimmed.{AreNeeded, kept_chains, moved_number}
use Rattle.am_chain.specs.inside.Marks.{mark_at}
use Rattle.am_chain.proofs.KeptChains.{length-kept_chains, names_below, trimmed_refutes}
use Rattle.am_chain.proofs.trimming.trimmed.Goals as goal

pub needed_chains-requires : goal.needed_chains-requires
needed_chains-requires c = λ k chain at n h.
    omega (
      arith,
      names_below c.args.formula.now.clauses [] c.requires.refutes.0 c.args.log.now c.requires.refutes.1 k chain at n h,
      c.len-given.ensures,
    )

pub kept_of-requires-clause-names : goal.kept_of-requires-clause-names
kept_of-requires-clause-names c = λ k chain at n h.
    omega (
      arith,
      names_below c.args.formula.now.clauses [] c.requires.refutes.0 c.args.log.now c.requires.refutes.1 k chain at n h,
      c.len-given.ensures,
    )

pub returns-clause-refutes : goal.returns-clause-refutes
returns-clause-refutes c =
    let clauses = c.args.formula.now.clauses in
    let log = c.args.log.now in
    let keeps = mark_at c.in_ok-needed.needed.items in
    let is : c.in_ok-kept.kept ≡ kept_chains (moved_number (length clauses) keeps) keeps 0 log =
    rw (c.as_slice-2.ensures.value, c.len-given.ensures) at c.in_ok-kept.ensures in
    let needed : AreNeeded (length clauses) log keeps = rw c.len-given.ensures at c.in_ok-needed.ensures.needed in
    rw is (trimmed_refutes clauses log keeps needed c.requires.refutes)

pub returns-clause-fewer : goal.returns-clause-fewer
returns-clause-fewer c =
    let clauses = c.args.formula.now.clauses in
    let log = c.args.log.now in
    let keeps = mark_at c.in_ok-needed.needed.items in
    let is : c.in_ok-kept.kept ≡ kept_chains (moved_number (length clauses) keeps) keeps 0 log =
    rw (c.as_slice-2.ensures.value, c.len-given.ensures) at c.in_ok-kept.ensures in
    rw is (length-kept_chains (moved_number (length clauses) keeps) keeps 0 log)

pub returns-clause-needed : goal.returns-clause-needed
returns-clause-needed c =
    let clauses = c.args.formula.now.clauses in
    let log = c.args.log.now in
    let keeps = mark_at c.in_ok-needed.needed.items in record {
      keeps = keeps;
      needed = rw c.len-given.ensures at c.in_ok-needed.ensures.needed;
      chains = rw (c.as_slice-2.ensures.value, c.len-given.ensures) at c.in_ok-kept.ensures;
    }
