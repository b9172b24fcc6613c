-- What becomes of the answer of a call on a standard stream.
use Rattle.std.specs.Prelude.{◌≡◌, ℕ, ◌+◌, Ok, Err, MatchResult}
use Rattle.std.specs.declared.result.Result.{Result}
use Rattle.am_io.specs.declared.streams.Failed.{Failed}
use Rattle.am_io.specs.declared.streams.Failed.TheVariants as failed

-- the answer is passed on, and one more fault is counted exactly where it is an error
abbrev pub CountsFaults : {T E : Type 0} → Result T E → Result T Failed → ℕ → ℕ → Type 0
CountsFaults answer result old new =
    MatchResult answer (λ x. (result ≡ Ok x) × (new ≡ old)) (λ _. (result ≡ Err failed.Failed) × (new ≡ old + 1))
