use Rattle.std.proofs.Common.{◌≡◌, ℕ, ◌<◌, All, drop, length, true}
use Rattle.am_chain.specs.inside.Marks.{is_in, mark_at}
use Rattle.am_chain.proofs.marks.unmark_all.Given as goal

abbrev pub invariant-loop-l : goal.invariant-loop-l
invariant-loop-l s = record {
  in_range : All (λ m. m < length s.marks) s.touched;
  left : (m : ℕ) → mark_at s.marks m ≡ true → is_in (drop s.l-index s.touched) m ≡ true;
}
