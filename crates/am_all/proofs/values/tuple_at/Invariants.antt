use Rattle.std.proofs.Common.{◌≡◌, ◌-◌, ◌^◌, ◌++◌, length}
use Rattle.am_all.specs.inside.Numbers.{words_at}
use Rattle.am_all.proofs.values.tuple_at.Given as goal

abbrev pub invariant-loop : goal.invariant-loop
invariant-loop l = record {
  pushed : length l.tuple ≡ l.counter;
  base : l.base ≡ 2 ^ l.fn.w;
  left : l.tuple ++ words_at l.fn.w (l.count - l.counter) l.rest ≡ words_at l.fn.w l.count l.number;
}
