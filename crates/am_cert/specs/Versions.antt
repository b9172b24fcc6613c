-- What the versions of certificates say.
use Rattle.std.specs.Prelude.{Bool, false, true}
use Rattle.am_cert.specs.declared.version.Version.{Version}
use Rattle.am_cert.specs.declared.version.Version.TheVariants.{Four, One, Three, Two}

-- whether the formulas of a version fold constants
abbrev pub folds : Version → Bool
folds One = false
folds Two = true
folds Three = false
folds Four = true

-- whether hints stand in place of the logs
abbrev pub has_hints : Version → Bool
has_hints One = false
has_hints Two = false
has_hints Three = true
has_hints Four = true

-- the version with hints, and the same form of formulas
abbrev pub with_hints : Version → Version
with_hints One = Three
with_hints Two = Four
with_hints Three = Three
with_hints Four = Four
