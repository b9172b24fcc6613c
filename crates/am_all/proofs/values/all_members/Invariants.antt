use Rattle.std.proofs.Common.{◌≡◌, ℕ, ◌<◌, length}
use Rattle.std.specs.Prelude.{slice_index_or}
use Rattle.am_problem.specs.Kinds.{fields_of}
use Rattle.am_all.specs.declared.word_set.WordSet.{WordSet}
use Rattle.am_all.specs.inside.Numbers.{words_at}
use Rattle.am_all.specs.inside.Values.{IsMemberSet}
use Rattle.am_all.proofs.values.all_members.Given as goal

abbrev pub invariant-loop-number : goal.invariant-loop-number
invariant-loop-number l = record {
  pushed : length l.sets ≡ l.number;
  each : (n : ℕ) (d : WordSet) → n < l.number →
      IsMemberSet l.p (words_at l.p.width (fields_of l.p.kind) n) (slice_index_or l.sets n d);
}
