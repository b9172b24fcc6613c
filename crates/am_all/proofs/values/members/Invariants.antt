use Rattle.std.proofs.Common.{ℕ, ◌<◌, ◌↔◌}
use Rattle.am_problem.specs.Kinds.{meaning_of}
use Rattle.am_all.specs.inside.Sets.{Has}
use Rattle.am_all.proofs.values.members.Given as goal

abbrev pub invariant-loop-c : goal.invariant-loop-c
invariant-loop-c l = (c : ℕ) → Has l.members c ↔ ((c < l.c) × (meaning_of l.p.kind).Member l.p.width l.fields c)
