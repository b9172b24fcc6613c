use Rattle.am_hint.proofs.Listed.{first_hint_faults_stand}
use Rattle.am_hint.proofs.hint_laws.first_hint_faults_stand.Goals as goal

pub returns : goal.returns
returns c = first_hint_faults_stand
