use Rattle.std.proofs.Common.{◌≡◌, [], length, map}
use Rattle.am_syntax.specs.Pieces.{repeat_from}
use Rattle.am_syntax.proofs.item.read_list_ahead.Given as goal

abbrev pub decreases-items : goal.decreases-items
decreases-items g l = length l.ahead.tokens

abbrev pub invariant-items : goal.invariant-items
invariant-items g l =
    repeat_from g.I.Listed.goes (g.I.Item.reads l.item) (map g.I.Item.view l.found) l.ahead ≡
    repeat_from g.I.Listed.goes (g.I.Item.reads l.item) [] l.initial.ahead
