use Rattle.std.proofs.Common.{◌≡◌, ◌∷◌, take}
use Rattle.am_flow.proofs.actions.before.Given as goal

abbrev pub invariant-more : goal.invariant-more
invariant-more l = l.all ≡ l.first ∷ take l.variable-index l.more
