use Rattle.std.proofs.Common.{◌∙◌, arith}
use Rattle.am_slot.proofs.Bounds.{selectors_most, clauses_most, symbols-roots}
use Rattle.am_slot.proofs.Tables.{whole}
use Rattle.am_slot.proofs.template.Template.clauses.Goals as goal

pub push_clauses-requires-clause-whole : goal.push_clauses-requires-clause-whole
push_clauses-requires-clause-whole c =
    whole c.self.inside.rules c.self.inside.starts c.self.inside.depth c.self.invariant.0.grammar

pub push_clauses-requires-clause-symbols : goal.push_clauses-requires-clause-symbols
push_clauses-requires-clause-symbols c =
    let same = c.as_slice-2.ensures.value ∙ c.in_ok-asked.ensures in
    rw (same, c.as_slice.ensures, symbols-roots c.self.inside.starts) c.self.invariant.0.grammar.starts_in

pub push_clauses-requires-clause-selectors : goal.push_clauses-requires-clause-selectors
push_clauses-requires-clause-selectors c =
    let t = c.self.inside in
    let same = c.as_slice-2.ensures.value ∙ c.in_ok-asked.ensures in
    rw (same, c.as_slice.ensures, symbols-roots t.starts)
    (omega (arith, selectors_most t.rules t.starts t.depth c.self.invariant.0.grammar c.self.invariant.1))

pub push_clauses-requires-clause-room : goal.push_clauses-requires-clause-room
push_clauses-requires-clause-room c =
    let t = c.self.inside in
    let same = c.as_slice-2.ensures.value ∙ c.in_ok-asked.ensures in
    rw (c.new-clauses.ensures, same, c.as_slice.ensures)
    (omega (arith, clauses_most t.rules t.starts t.depth c.self.invariant.0.grammar c.self.invariant.1))
