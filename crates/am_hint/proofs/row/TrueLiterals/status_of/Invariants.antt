use Rattle.std.proofs.Common.{◌≡◌, ◌++◌, drop, false}
use Rattle.std.specs.Prelude.{IfSome}
use Rattle.std.specs.Option.{option_to_list}
use Rattle.am_hint.specs.Hints.{is_hinted_in, not_false, status_by, status_of}
use Rattle.am_hint.proofs.row.TrueLiterals.status_of.Given as goal

abbrev pub invariant-loop-l : goal.invariant-loop-l
invariant-loop-l s =
    let row = s.self.literals in record {
      rest : status_by row (option_to_list s.free ++ not_false row (drop s.l-index s.clause)) ≡ status_of row s.clause;
      free : IfSome s.free (λ l. is_hinted_in row l ≡ false);
    }
