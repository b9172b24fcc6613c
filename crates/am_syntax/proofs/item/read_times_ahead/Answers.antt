use Rattle.std.proofs.Common.{Err, [], map, ap, sym, ◌∙◌}
use Rattle.std.proofs.lemmas.List.{map_push}
use Rattle.std.proofs.lemmas.Result.{err_from_is_err_and}
use Rattle.am_syntax.specs.Pieces.{times_from}
use Rattle.am_syntax.proofs.Loops.{makes_err, times_done, times_fails, times_more}
use Rattle.am_syntax.proofs.item.read_times_ahead.Goals as goal

pub returns-in_err-read : goal.returns-in_err-read
returns-in_err-read g c =
    let p = err_from_is_err_and c.from_residual.result c.from_residual.ensures.1 in
    let left = c.read.new.text in
    let reads = g.I.Item.reads c.args.item.now in
    makes_err (map g.I.Item.view) c.args.ahead.now left (times_from reads c.args.count []) c.in_err-read.field-0.0
    c.from_residual.result (p.1 ∙ ap Err p.2) (λ cause is.
    times_fails reads c.args.count c.items.counter (map g.I.Item.view c.items.found) c.items.ahead (cause, left) _
    c.items-test.true
    (ap (λ xs. reads (map g.I.Item.view xs) c.items.ahead) (sym c.as_slice.ensures) ∙ c.in_err-read.ensures cause is)
    c.items.invariant)

pub items-preserved : goal.items-preserved
items-preserved g c =
    let reads = g.I.Item.reads c.args.item.now in
    let x = c.in_ok-read.field-0 in
    let one = ap (λ xs. reads (map g.I.Item.view xs) c.items.ahead) (sym c.as_slice.ensures) ∙ c.in_ok-read.ensures in
    rw (c.in_ok-push.ensures.ok, map_push g.I.Item.view c.items.found x)
    (times_more reads c.args.count c.items.counter (map g.I.Item.view c.items.found) c.items.ahead (g.I.Item.view x)
    c.read.new.text _ c.items-test.true one c.items.invariant)

pub returns : goal.returns
returns g c =
    times_done (g.I.Item.reads c.args.item.now) c.args.count c.items.counter (map g.I.Item.view c.items.found)
    c.items.ahead _ c.items-test.false c.items.invariant
