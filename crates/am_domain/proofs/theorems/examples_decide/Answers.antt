use Rattle.am_domain.proofs.Examples.{sound_covers, better_excludes, none_is_sound, none_betters}
use Rattle.am_domain.proofs.theorems.examples_decide.Goals as goal

pub returns : goal.returns
returns g c = record {
  covers = sound_covers g.Q.Asks.question;
  excludes = better_excludes g.Q.Asks.question;
  sound = none_is_sound g.Q.Asks.question;
  best = none_betters g.Q.Asks.question;
}
