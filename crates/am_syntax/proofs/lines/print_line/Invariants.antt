use Rattle.std.proofs.Common.{◌≡◌, ◌++◌, flat_map, take}
use Rattle.am_syntax.specs.Lines.{entry_words}
use Rattle.am_syntax.specs.Canonical.{spaced_after}
use Rattle.am_syntax.proofs.lines.print_line.Given as goal

abbrev pub invariant-entries : goal.invariant-entries
invariant-entries l = l.out ≡ l.initial.out ++ flat_map (λ e. spaced_after (entry_words e))
    (take l.entry-index l.entries)
