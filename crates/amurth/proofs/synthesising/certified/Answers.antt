use Rattle.amurth.proofs.synthesising.certified.Goals as goal

pub returns : goal.returns
returns c = record {
  outcome = c.in_ok-outcome.outcome;
  synthesis = record {
    synthesis = c.in_ok-outcome.ensures.answer;
    turns = c.in_ok-outcome.ensures.turns;
    conflicts = c.in_ok-outcome.ensures.conflicts;
    ended = c.status_of-status.ensures;
  };
  wrote = c.in_ok-text.ensures;
}
