use Rattle.std.proofs.Common.{refl}
use Rattle.std.specs.Fmt.{digits}
use Rattle.am_syntax.specs.Canonical.{line}
use Rattle.amurth.proofs.lines.long_line.Goals as goal

pub returns : goal.returns
unfolding line digits
returns c = refl
