use Rattle.std.proofs.Common.{length}
use Rattle.am_gate.specs.Build.{place_of}
use Rattle.am_gate.proofs.Laws.{Makes-exactly}
use Rattle.am_slot.proofs.Fitting.{are_fit}
use Rattle.am_slot.proofs.Whole.{block_makes, block_reads}
use Rattle.am_slot.proofs.template.Template.at.Goals as goal

pub words-requires-clause-fit : goal.words-requires-clause-fit
words-requires-clause-fit c =
    are_fit _ c.self.invariant.0 (length c.args.fields.now) (rw (← c.self.view_is) at c.requires.over)

pub returns-clause-ok : goal.returns-clause-ok
returns-clause-ok c =
    let made =
    rw (c.as_slice.ensures, ← c.as_slice-2.ensures.value, ← c.in_ok-outputs.ensures)
    at c.in_ok-words.ensures.ok in
    rw (← c.self.view_is) (record {
      follows = made.follows;
      given = record { many = made.given.many; each = made.given.each };
      grows = made.grows;
    })

pub returns-clause-count : goal.returns-clause-count
returns-clause-count c = λ plain.
    let is = rw c.self.view_is at c.self.invariant.0 in
    Makes-exactly plain
    (block_makes c.args.self.now is c.args.fields.now c.requires.over (place_of c.args.circuit.now)
    c.requires.selectors c.requires.fields)
    (returns-clause-ok c).follows

pub returns-clause-meaning : goal.returns-clause-meaning
returns-clause-meaning c =
    let is = rw c.self.view_is at c.self.invariant.0 in
    λ v. block_reads c.args.self.now is c.args.fields.now c.requires.over v (λ i d k. (c.requires.fields i d k).bits)

pub returns-in_err-words-clause-meaning : goal.returns-in_err-words-clause-meaning
returns-in_err-words-clause-meaning c =
    let is = rw c.self.view_is at c.self.invariant.0 in
    λ v. block_reads c.args.self.now is c.args.fields.now c.requires.over v (λ i d k. (c.requires.fields i d k).bits)

pub returns-in_err-outputs-clause-meaning : goal.returns-in_err-outputs-clause-meaning
returns-in_err-outputs-clause-meaning c =
    let is = rw c.self.view_is at c.self.invariant.0 in
    λ v. block_reads c.args.self.now is c.args.fields.now c.requires.over v (λ i d k. (c.requires.fields i d k).bits)
