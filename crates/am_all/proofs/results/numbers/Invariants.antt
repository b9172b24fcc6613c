use Rattle.std.proofs.Common.{◌≡◌, ℕ, ◌<◌, length, map}
use Rattle.std.specs.Prelude.{slice_index}
use Rattle.am_all.specs.inside.Numbers.{tuple_number}
use Rattle.am_all.proofs.results.numbers.Given as goal

abbrev pub invariant-loop-i : goal.invariant-loop-i
invariant-loop-i l = record {
  counted : length l.numbers ≡ l.i;
  each : (k : ℕ) → k < l.i → slice_index l.numbers k ≡ tuple_number l.w (map (λ c. slice_index c.now.values k) l.tuple);
}
