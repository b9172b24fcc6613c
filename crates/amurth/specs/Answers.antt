-- What is written for the text of an input: what is due to its value, or the line of its first refusal.
use Rattle.std.specs.Prelude.{◌≡◌, ℕ, ◌^◌, ◌≤◌, ◌<◌, ◌⊎◌, List, Err, Result, length}
use Rattle.am_syntax.specs.declared.refusal.Refusal.{Refusal}
use Rattle.am_syntax.specs.declared.refusal.Refusal.TheVariants.{Long}
use Rattle.amurth.specs.Lines.{refusal_line}
use Rattle.amurth.specs.declared.status.Status.{Status}
use Rattle.amurth.specs.declared.status.Status.TheVariants.{Refused}

-- the input is this value's text, and isn't too long
pub record IsInputText {A : Type 0} (Reads : List ℕ → A → Type 0) (input : List ℕ) (value : A) : Type 0 where
  pub short : length input ≤ 2 ^ 26
  pub reads : Reads input value

-- the refusal of an input: that it is too long, or the first of its text
abbrev pub IsRefusalBy : {A : Type 0} → (List ℕ → Result A Refusal) → List ℕ → Refusal → Type 0
IsRefusalBy value_of input r =
    ((2 ^ 26 < length input) × (r ≡ Long)) ⊎ ((length input ≤ 2 ^ 26) × (value_of input ≡ Err r))

-- the input is refused, and the line that says why is written
pub record IsRefusedBy {A : Type 0} (value_of : List ℕ → Result A Refusal) (status : Status) (input written : List ℕ)
    : Type 0 where
  pub ended : status ≡ Refused
  pub refusal : Refusal
  pub first : IsRefusalBy value_of input refusal
  pub wrote : written ≡ refusal_line refusal

-- the input is a value's text, and what is due to the value is written
pub record IsAnsweredBy {A : Type 0} (Reads : List ℕ → A → Type 0) (IsDue : A → Status → List ℕ → Type 0)
    (status : Status) (input written : List ℕ) : Type 0 where
  pub value : A
  pub text : IsInputText Reads input value
  pub due : IsDue value status written

-- what is written for an input: what is due to its value, or why it has none
abbrev pub IsAnswer : {A : Type 0} → (List ℕ → A → Type 0) → (List ℕ → Result A Refusal) →
    (A → Status → List ℕ → Type 0) → Status → List ℕ → List ℕ → Type 0
IsAnswer Reads value_of IsDue status input written =
    IsAnsweredBy Reads IsDue status input written ⊎ IsRefusedBy value_of status input written
