use Rattle.std.proofs.Common.{◌≡◌, ◌-◌, [], map}
use Rattle.am_syntax.specs.Pieces.{times_from}
use Rattle.am_syntax.proofs.item.read_times_ahead.Given as goal

abbrev pub invariant-items : goal.invariant-items
invariant-items g l =
    times_from (g.I.Item.reads l.item) (l.count - l.counter) (map g.I.Item.view l.found) l.ahead ≡
    times_from (g.I.Item.reads l.item) l.count [] l.initial.ahead
