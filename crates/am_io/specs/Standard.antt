-- Sources and sinks over the readers and writers of std.
use Rattle.std.specs.Prelude.{ℕ, List}
use Rattle.std.specs.declared.option.Option.{Option}
use Rattle.std.specs.Coded.{Coded, code_by, coded×, coded_ℕ, coded_list, coded_option}
use Rattle.std.proofs.Common.{refl}

-- the bytes that a reader has left or a writer holds, where it tells them, and the count of faults
pub record StreamState : Type 0 where
  pub bytes : Option (List ℕ)
  pub faults : ℕ

-- how the check keeps this record
abbrev pub stream_code : Coded StreamState
stream_code = code_by (Option (List ℕ) × ℕ) (coded× (coded_option (coded_list coded_ℕ)) coded_ℕ)
    (λ s. (s.bytes, s.faults))
    (λ p. record { bytes = p.0; faults = p.1 })
    (λ _. refl)
