use Rattle.std.proofs.Common.{ℕ, ◌≡◌, List, All, drop, length}
use Rattle.std.specs.Prelude.{Ok}
use Rattle.am_chain.specs.ChainLaws.{IsRisingBelow}
use Rattle.am_chain.specs.Checked.{all_clauses}
use Rattle.am_chain.specs.Replay.{EndsEmpty, replay}
use Rattle.am_hint.specs.inside.Translated.{AreTranslated}
use Rattle.am_hint.proofs.translation.translate.Given as goal

-- the chains so far are translated, and those that are left lead to an empty clause
abbrev pub invariant-loop-k : goal.invariant-loop-k
invariant-loop-k l = record {
  formula : l.translation.formula.now ≡ l.formula;
  given : l.translation.checker.given ≡ l.formula.clauses;
  count : length l.translation.checker.derived ≡ l.k;
  rest : (all : List (List ℕ)) × (replay l.formula.clauses l.translation.checker.derived (drop l.k l.log) ≡ Ok all)
      × EndsEmpty all;
  rising : All (IsRisingBelow l.formula.vars) (all_clauses l.translation.checker);
  vars : l.translation.row.vars ≡ l.formula.vars;
  translated : AreTranslated l.formula.vars l.translation.checker l.translation.numbers l.translation.hints;
}
