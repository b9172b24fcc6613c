use Rattle.std.proofs.Common.{map, rules}
use Rattle.am_flow.specs.States.{IsTable}
use Rattle.amurth.specs.Analysed.{operation}
use Rattle.amurth.proofs.AnalysisFits.{all_best, are_operations, are_sound}
use Rattle.amurth.proofs.analysing.table_text.Goals as goal

pub operations-requires : goal.operations-requires
operations-requires c = all_best c.args.flow.now c.args.certificates.now c.requires.fit

pub analyse-requires : goal.analyse-requires
analyse-requires c =
    rw (c.as_slice.ensures.value, c.in_ok-operations.ensures.value)
    (are_operations c.args.flow.now c.args.certificates.now c.requires.fit c.requires.flow
    c.in_ok-operations.ensures.limits)

pub returns : goal.returns
returns c =
    let f = c.args.flow.now in
    let cs = c.args.certificates.now in
    let all = map operation cs in
    let table = c.in_ok-table.table in
    let is : IsTable f all table =
    rw (c.as_slice.ensures.value, c.in_ok-operations.ensures.value) at c.in_ok-table.ensures in
    let run = are_operations f cs c.requires.fit c.requires.flow c.in_ok-operations.ensures.limits in
    let covers =
    c.tables_cover_runs.ensures f all table run (are_sound f cs c.requires.fit c.requires.proved) is in
    (table, is, covers, search rules)
