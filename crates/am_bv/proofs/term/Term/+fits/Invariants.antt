use Rattle.std.proofs.Common.{◌≡◌, take, ◌&&◌}
use Rattle.std.specs.List.{list_all}
use Rattle.am_bv.specs.Terms.{fits}
use Rattle.am_bv.proofs.term.Term.+fits.Given as goal

abbrev pub invariant-loop-t : goal.invariant-loop-t
invariant-loop-t l = l.fit ≡ (l.initial.fit && list_all (fits l.w l.n) (take l.t-index l.t-items))
