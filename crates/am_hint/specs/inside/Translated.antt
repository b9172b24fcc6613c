-- What a translation of chains to hints holds on its way.
use Rattle.std.specs.Prelude.{ℕ, ◌≡◌, ◌-◌, ◌^◌, ◌≤◌, Bool, false, true, List, [], ◌∷◌, ◌++◌, All, length, take, Some}
use Rattle.std.specs.Prelude.{if◌then◌else◌, nat_lt, slice_get, slice_index}
use Rattle.am_lit.specs.UnitRow.{IsConsistent}
use Rattle.am_chain.specs.Checked.{Checked}
use Rattle.am_chain.specs.Replay.{EndsEmpty}
use Rattle.am_hint.specs.declared.hint.Hint.{Hint}
use Rattle.am_hint.specs.declared.status.Status.{Status}
use Rattle.am_hint.specs.declared.status.Status.TheVariants.{Conflict, Forces, Open}
use Rattle.am_hint.specs.HintReplay.{AllPass, hint_clauses}

-- how many clauses are given, and the new numbers of the chains' clauses
pub record NewNumbers : Type 0 where
  pub given : ℕ
  pub chains : List ℕ

-- the new number of a clause: a given one keeps its own
abbrev pub new_number : NewNumbers → ℕ → ℕ
new_number numbers n = if nat_lt n numbers.given then n else slice_index numbers.chains (n - numbers.given)

-- the clauses that a chain may name, given how many chains stand before it
abbrev pub clauses_before : Checked → ℕ → List (List ℕ)
clauses_before k count = k.given ++ take count k.derived

-- of the clauses that chains derive, those that hold no variable in both signs stand at their new
-- numbers, after the given ones, among clauses of hints; where the last one is empty, so is the last
-- hint's
pub record AreMoved (given derived hinted : List (List ℕ)) (numbers : List ℕ) : Type 0 where
  pub long : length numbers ≡ length derived
  pub at : (j : ℕ) (c : List ℕ) → slice_get derived j ≡ Some c → IsConsistent c
      → slice_get (given ++ hinted) (slice_index numbers j) ≡ Some c
  pub ends : EndsEmpty derived → EndsEmpty (hinted)

-- what is made of a clause that is named: its new number is noted and the test ends, or its number is
-- noted and one more literal is true, or it is passed over
abbrev pub IsTakenBack : Status → ℕ → Bool → List ℕ → List ℕ → List ℕ → List ℕ → Type 0
IsTakenBack Conflict number ends by by_new row row_new = (ends ≡ true) × (by_new ≡ by ++ number ∷ [])
IsTakenBack (Forces l) number ends by by_new row row_new =
    (ends ≡ false) × (by_new ≡ by ++ number ∷ []) × (row_new ≡ row ++ l ∷ [])
IsTakenBack Open number ends by by_new row row_new = (ends ≡ false) × (by_new ≡ by) × (row_new ≡ row)

-- the hints of the chains whose clauses were derived pass, one for each clause that holds no variable
-- in both signs
pub record AreTranslated (vars : ℕ) (k : Checked) (numbers : NewNumbers) (hints : List Hint) : Type 0 where
  pub pass : AllPass vars k.given hints
  pub given : numbers.given ≡ length k.given
  pub moved : AreMoved k.given k.derived (hint_clauses hints) numbers.chains
  pub few : length hints ≤ length k.derived
  pub short : All (λ hint. length hint.by ≤ 2 ^ 30) hints
