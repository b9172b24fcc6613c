use Rattle.am_hint.proofs.NormalTests.{normal_tests_are_right}
use Rattle.am_hint.proofs.hint_laws.normal_tests_are_right.Goals as goal

pub returns : goal.returns
returns c = normal_tests_are_right
