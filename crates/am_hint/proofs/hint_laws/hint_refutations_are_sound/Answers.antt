use Rattle.am_hint.proofs.Listed.{hint_refutations_are_sound}
use Rattle.am_hint.proofs.hint_laws.hint_refutations_are_sound.Goals as goal

pub returns : goal.returns
returns c = hint_refutations_are_sound
