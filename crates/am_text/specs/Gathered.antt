-- A stream that is gathered from its pieces.
use Rattle.std.specs.Prelude.{◌≡◌, ℕ, ◌+◌, Bool, false, List, take}
use Rattle.std.specs.Coded.{Coded, code_by, coded×, coded_bool, coded_ℕ, coded_list}
use Rattle.std.proofs.Common.{refl}

-- the bytes held, how many bytes the stream may have, and whether a piece found no memory
pub record Gathered : Type 0 where
  pub held : List ℕ
  pub limit : ℕ
  pub refused : Bool

-- no piece was refused, and the stream's first limit + 1 bytes are held
pub record HoldsStream (g : Gathered) (stream : List ℕ) : Type 0 where
  pub kept : g.refused ≡ false
  pub first : g.held ≡ take (g.limit + 1) stream

-- how the check keeps this record
abbrev pub gathered_code : Coded Gathered
gathered_code = code_by (List ℕ × (ℕ × Bool)) (coded× (coded_list coded_ℕ) (coded× coded_ℕ coded_bool))
    (λ g. (g.held, (g.limit, g.refused)))
    (λ p. record { held = p.0; limit = p.1.0; refused = p.1.1 })
    (λ _. refl)
