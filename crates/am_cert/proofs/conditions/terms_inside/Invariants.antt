use Rattle.std.proofs.Common.{take, zip}
use Rattle.std.specs.List.{All}
use Rattle.am_query.specs.Acceptance.{IsGiven}
use Rattle.am_cert.proofs.conditions.terms_inside.Given as goal

abbrev pub invariant-loop-i : goal.invariant-loop-i
invariant-loop-i l = All (λ (start, term). IsGiven l.p start term) (take l.i (zip l.p.starts l.terms))
