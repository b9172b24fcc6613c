-- Which parts of a certificate can be printed: those whose terms fit somewhere.
use Rattle.std.specs.Prelude.{List, All}
use Rattle.am_bv.specs.declared.term.Term.{Term}
use Rattle.am_query.specs.declared.asked.Asked.{Asked}
use Rattle.am_query.specs.declared.asked.Asked.TheVariants.{Keep, Precise, Sound, Start}
use Rattle.am_query.specs.declared.outcome.Outcome.{Outcome}
use Rattle.am_query.specs.declared.outcome.Outcome.TheVariants.{Absent, Best, Conflicts, Turns}
use Rattle.am_query.specs.declared.turn.Turn.{Turn}
use Rattle.am_query.specs.declared.turn.Turn.TheVariants.{Negative as NegativeTurn, Positive as PositiveTurn}
use Rattle.am_syntax.specs.Spelling.{FitsSomewhere}

-- each term fits somewhere
abbrev pub AreTerms : List Term → Type 0
AreTerms ts = All FitsSomewhere ts

-- the terms of a turn fit somewhere
abbrev pub IsPrintableTurn : Turn → Type 0
IsPrintableTurn (PositiveTurn t e kept) = AreTerms t
IsPrintableTurn (NegativeTurn t e) = AreTerms t

-- the terms of what was asked fit somewhere
abbrev pub IsPrintableAsked : Asked → Type 0
IsPrintableAsked Start = Unit {0}
IsPrintableAsked (Keep t e places) = AreTerms t
IsPrintableAsked (Sound t) = AreTerms t
IsPrintableAsked (Precise t) = AreTerms t

-- all terms of an outcome fit somewhere
abbrev pub IsPrintable : Outcome → Type 0
IsPrintable (Best t trace sound_log best_log) = AreTerms t × All IsPrintableTurn trace
IsPrintable (Absent trace log) = All IsPrintableTurn trace
IsPrintable (Turns trace) = All IsPrintableTurn trace
IsPrintable (Conflicts trace asked log) = All IsPrintableTurn trace × IsPrintableAsked asked
