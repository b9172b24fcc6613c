use Rattle.std.proofs.Common.{◌≡◌, ℕ, ◌<◌, All, drop, length, true}
use Rattle.am_hint.specs.Hints.{is_hinted_in}
use Rattle.am_hint.specs.inside.Rows.{truth_at}
use Rattle.am_hint.proofs.row.unset_all.Given as goal

abbrev pub invariant-loop-l : goal.invariant-loop-l
invariant-loop-l s = record {
  within : All (λ l. l < length s.truths) s.row;
  left : (l : ℕ) → truth_at s.truths l ≡ true → is_hinted_in (drop s.l-index s.row) l ≡ true;
}
