use Rattle.am_hint.proofs.Sound.{hints_are_sound}
use Rattle.am_hint.proofs.hint_laws.hints_are_sound.Goals as goal

pub returns : goal.returns
returns c = hints_are_sound
