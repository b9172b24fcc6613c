use Rattle.std.proofs.Common.{ℕ, ◌/◌, ◌<◌}
use Rattle.am_all.specs.inside.Sets.{Has}
use Rattle.am_all.proofs.word_set.WordSet.is_subset.Given as goal

abbrev pub invariant-loop-place : goal.invariant-loop-place
invariant-loop-place l = (c : ℕ) → c / 64 < l.place → Has l.self c → Has l.other c
