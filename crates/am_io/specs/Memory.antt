-- Sources and sinks in memory, whose calls are numbered from 0 and fail as they are told to.
use Rattle.std.specs.Prelude.{◌≡◌, ℕ, ◌+◌, ◌-◌, ◌^◌, min, List, [], ◌++◌, take, drop, MatchResult}
use Rattle.std.specs.declared.result.Result.{Result}
use Rattle.std.specs.Coded.{Coded, code_by, coded×, coded_ℕ, coded_list}
use Rattle.std.proofs.Common.{refl}

-- the bytes left, the most that one call gives, the calls that fail, the number of the next call,
-- and the count of faults
pub record SourceState : Type 0 where
  pub left : List ℕ
  pub step : ℕ
  pub failing : List ℕ
  pub calls : ℕ
  pub faults : ℕ

-- the bytes taken and the room left, and the rest as for a source
pub record SinkState : Type 0 where
  pub taken : List ℕ
  pub room : ℕ
  pub step : ℕ
  pub failing : List ℕ
  pub calls : ℕ
  pub faults : ℕ

-- a source before its first call
abbrev pub new_source : List ℕ → ℕ → List ℕ → SourceState
new_source bytes step failing = record { left = bytes; step = step; failing = failing; calls = 0; faults = 0 }

-- a sink before its first call
abbrev pub new_sink : ℕ → ℕ → List ℕ → SinkState
new_sink room step failing = record { taken = []; room = room; step = step; failing = failing; calls = 0; faults = 0 }

-- the number of the next call, which stays at the last one
abbrev pub next_call : ℕ → ℕ
next_call n = min (n + 1) (2 ^ 64 - 1)

-- a `take` gave n bytes, or failed
abbrev pub GivesBytes : {E : Type 0} → SourceState → SourceState → Result ℕ E → Type 0
GivesBytes old new r = MatchResult r
    (λ n. new ≡ record old { left = drop n old.left; calls = next_call old.calls })
    (λ _. new ≡ record old { calls = next_call old.calls; faults = old.faults + 1 })

-- a `put` took n bytes of a piece, or failed
abbrev pub TakesBytes : {E : Type 0} → SinkState → SinkState → Result ℕ E → List ℕ → Type 0
TakesBytes old new r piece = MatchResult r
    (λ n. new ≡ record old { taken = old.taken ++ take n piece; room = old.room - n; calls = next_call old.calls })
    (λ _. new ≡ record old { calls = next_call old.calls; faults = old.faults + 1 })

-- a `finish` succeeded, or failed
abbrev pub Finishes : {T E : Type 0} → SinkState → SinkState → Result T E → Type 0
Finishes old new r = MatchResult r
    (λ _. new ≡ record old { calls = next_call old.calls })
    (λ _. new ≡ record old { calls = next_call old.calls; faults = old.faults + 1 })

-- how the check keeps a source
abbrev pub source_code : Coded SourceState
source_code = code_by (List ℕ × (ℕ × (List ℕ × (ℕ × ℕ))))
    (coded× (coded_list coded_ℕ) (coded× coded_ℕ (coded× (coded_list coded_ℕ) (coded× coded_ℕ coded_ℕ))))
    (λ s. (s.left, (s.step, (s.failing, (s.calls, s.faults)))))
    (λ p. record { left = p.0; step = p.1.0; failing = p.1.1.0; calls = p.1.1.1.0; faults = p.1.1.1.1 })
    (λ _. refl)

-- how the check keeps a sink
abbrev pub sink_code : Coded SinkState
sink_code = code_by (List ℕ × (ℕ × (ℕ × (List ℕ × (ℕ × ℕ)))))
    (coded× (coded_list coded_ℕ)
    (coded× coded_ℕ (coded× coded_ℕ (coded× (coded_list coded_ℕ) (coded× coded_ℕ coded_ℕ)))))
    (λ s. (s.taken, (s.room, (s.step, (s.failing, (s.calls, s.faults))))))
    (λ p. record
    { taken = p.0; room = p.1.0; step = p.1.1.0; failing = p.1.1.1.0; calls = p.1.1.1.1.0; faults = p.1.1.1.1.1 })
    (λ _. refl)
