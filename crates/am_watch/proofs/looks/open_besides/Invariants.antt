use Rattle.std.proofs.Common.{take, All, ◌≢◌}
use Rattle.std.specs.Prelude.{Contains}
use Rattle.am_lit.specs.Literal.{opposite_of}
use Rattle.am_trail.specs.Trails.{literals}
use Rattle.am_watch.proofs.looks.open_besides.Given as goal

abbrev pub invariant-loop-l : goal.invariant-loop-l
invariant-loop-l l = All (λ m. m ≢ l.other → Contains (literals l.trail.entries) (opposite_of m))
    (take l.l-index l.clause)
