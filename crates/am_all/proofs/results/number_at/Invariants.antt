use Rattle.std.proofs.Common.{◌≡◌, ◌^◌, drop, map}
use Rattle.std.specs.Prelude.{slice_index}
use Rattle.am_all.specs.inside.Numbers.{tuple_number}
use Rattle.am_all.proofs.results.number_at.Given as goal

abbrev pub invariant-loop-j : goal.invariant-loop-j
invariant-loop-j l = record {
  base : l.base ≡ 2 ^ l.fn.w;
  number : l.number ≡ tuple_number l.fn.w (drop l.j (map (λ c. slice_index c.now.values l.i) l.tuple));
}
