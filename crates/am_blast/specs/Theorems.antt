-- Laws of terms as circuits, for all terms. The functions of `theorems` prove them.
use Rattle.std.specs.Prelude.{◌≡◌, ℕ, ◌^◌, ◌<◌, ◌≤◌, Bool, not, ◌==◌, List, All, IsTrue, length, map}
use Rattle.am_lit.specs.Truth.{literal_value}
use Rattle.am_gate.specs.Value.{Meets}
use Rattle.am_gate.specs.Build.{Place, Means}
use Rattle.am_gate.specs.Promises.{MakesGates}
use Rattle.am_bv.specs.declared.op.Op.{Op}
use Rattle.am_bv.specs.declared.term.Term.{Term}
use Rattle.am_bv.specs.Terms.{val, fits, weight}
use Rattle.am_blast.specs.Words.{IsWord, reads, ReadsAs, constant}
use Rattle.am_blast.specs.Comparisons.{nonzero}
use Rattle.am_blast.specs.Circuits.{blasted}
use Rattle.am_blast.specs.Promises.{IsCircuitOf}

-- the circuit of a term over words of its fields reads as the term's value at what they read
abbrev pub TermsReadAsTheirValue : Type 0
TermsReadAsTheirValue =
    (w : ℕ) → 1 ≤ w → (t : Term) (fields : List (List ℕ)) → IsTrue (fits w (length fields) t) →
    All (λ field. length field ≡ w) fields →
    (v : ℕ → Bool) → Means v (blasted w fields t) (ReadsAs v w (val w t (map (reads v) fields)))

-- it makes gates over earlier variables: at most as many as the term weighs, and exactly so many where none
-- folds
abbrev pub TermsMakeTheirWeight : Type 0
TermsMakeTheirWeight =
    (w : ℕ) → 1 ≤ w → (t : Term) (fields : List (List ℕ)) → IsTrue (fits w (length fields) t) →
    (p : Place) → 0 < p.next → All (IsWord w p.next) fields →
    MakesGates (blasted w fields t) (weight w t) (IsWord w) p

-- truth values of the earlier variables extend to such that its gates have their values
abbrev pub TermsCanBeMet : Type 0
TermsCanBeMet =
    (w : ℕ) → 1 ≤ w → (t : Term) (fields : List (List ℕ)) → IsTrue (fits w (length fields) t) →
    (p : Place) → 0 < p.next → All (IsWord w p.next) fields →
    (v : ℕ → Bool) →
    (u : ℕ → Bool) × ((x : ℕ) → x < p.next → u x ≡ v x) × Meets u p.next (blasted w fields t p).events

-- the circuit of each operator reads as the operator's value, and makes as many gates as it weighs
abbrev pub OperatorsAreCircuits : Type 0
OperatorsAreCircuits = (w : ℕ) → 1 ≤ w → (op : Op) → IsCircuitOf w op

-- the test whether a word isn't 0 is true exactly where the word reads another number
abbrev pub NonzeroTestsTheNumber : Type 0
NonzeroTestsTheNumber =
    (v : ℕ → Bool) (word : List ℕ) → Means v (nonzero word) (λ l. literal_value v l ≡ not (reads v word == 0))

-- the word of a constant of so many bits reads as the constant
abbrev pub ConstantsReadTheirNumber : Type 0
ConstantsReadTheirNumber =
    (v : ℕ → Bool) (w c : ℕ) → IsTrue (v 0) → c < 2 ^ w → ReadsAs v w c (constant w c)
