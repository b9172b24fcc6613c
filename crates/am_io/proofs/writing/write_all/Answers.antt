use Rattle.std.proofs.Common.{◌∙◌, arith, rules}
use Rattle.am_io.proofs.Bytes.{Appends-more, take-rest}
use Rattle.am_io.proofs.writing.write_all.Goals as goal

pub loop-done-preserved : goal.loop-done-preserved
loop-done-preserved g c = record {
  within = search rules;
  taken = Appends-more _ _ _ c.args.bytes.now c.loop-done.done c.in_ok-done.field-0
      c.loop-done.invariant.taken (rw take-rest at c.in_ok-done.ensures.bytes);
  faults = c.in_ok-done.ensures.cause ∙ c.loop-done.invariant.faults;
  calls = omega (arith, c.in_ok-done.ensures.bound.0);
  finishes = omega arith;
}
