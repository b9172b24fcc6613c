use Rattle.std.proofs.Common.{ℕ, ◌<◌, ◌↔◌}
use Rattle.std.specs.Prelude.{Contains}
use Rattle.am_all.proofs.cases.all_words.Given as goal

abbrev pub invariant-loop-c : goal.invariant-loop-c
invariant-loop-c l = (c : ℕ) → Contains l.words c ↔ (c < l.c)
