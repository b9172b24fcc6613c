use Rattle.std.proofs.Common.{◌≡◌, length}
use Rattle.am_tree.specs.Listed.{trees_of}
use Rattle.am_all.specs.inside.Levels.{AreLevels, IsToldLevel}
use Rattle.am_all.proofs.levels.levels.Given as goal

abbrev pub invariant-loop : goal.invariant-loop
invariant-loop l = record {
  pushed : length l.levels ≡ l.counter;
  each : AreLevels l.grammar.rules l.levels;
  next : IsToldLevel (trees_of l.grammar.rules l.counter) l.level;
}
