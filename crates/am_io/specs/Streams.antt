-- What calls do to the bytes that a source has left and a sink has taken, and to their counts of faults.
use Rattle.std.specs.Prelude.{◌≡◌, ℕ, ◌≤◌, ◌<◌, List, length, take, MatchResult}
use Rattle.std.specs.declared.option.Option.{Option}
use Rattle.std.specs.declared.result.Result.{Result}
use Rattle.std.specs.Io.KnownBytes.{Consumes, Appends}

-- a call failed exactly where the count rose
abbrev pub FailsByCount : {T E : Type 0} → ℕ → ℕ → Result T E → Type 0
FailsByCount old new r = MatchResult r (λ _. new ≡ old) (λ _. old < new)

-- a source lost n bytes from its front
abbrev pub Loses : Option (List ℕ) → Option (List ℕ) → ℕ → Type 0
Loses old new n = (bs : List ℕ) × Consumes old new bs × (length bs ≡ n)

-- a source lost at most n bytes from its front
abbrev pub LosesAtMost : Option (List ℕ) → Option (List ℕ) → ℕ → Type 0
LosesAtMost old new n = (bs : List ℕ) × Consumes old new bs × (length bs ≤ n)

-- a sink took a prefix of a text
abbrev pub AppendsPrefix : Option (List ℕ) → Option (List ℕ) → List ℕ → Type 0
AppendsPrefix old new bs = (n : ℕ) × Appends old new (take n bs)
