-- What is asked of a transformer, and which transformers answer it. A transformer is a list of terms,
-- one for each field of the result, over the fields of all inputs.
use Rattle.std.specs.Prelude.{◌≡◌, ℕ, ◌<◌, ◌^◌, List, [], ◌∷◌, map, length, All, ⊤}
use Rattle.std.specs.List.{concat}
use Rattle.am_bv.specs.Terms.{val}
use Rattle.am_bv.specs.declared.term.Term.{Term}
use Rattle.am_domain.specs.Meaning.{Meaning, IsAbstract}

-- An operation on words and the assumption under which it is used, an abstract domain, and the lists of terms that a
-- language derives. An operation that is used at all words has an assumption that always holds.
pub record Question : Type 1 where
  pub width : ℕ
  pub inputs : ℕ
  pub domain : Meaning
  pub operation : List ℕ → ℕ
  pub Assumed : List ℕ → Type 0
  pub Derivable : List Term → Type 0

-- abstract values, one for each input
pub record AreInputs (q : Question) (inputs : List (List ℕ)) : Type 0 where
  pub counted : length inputs ≡ q.inputs
  pub values : All (IsAbstract q.domain q.width) inputs

-- a word is a member of a tuple
abbrev pub IsMember : Question → List ℕ → ℕ → Type 0
IsMember q = q.domain.Member q.width

-- each word is a member of the input at its place
abbrev pub AreMembers : Question → List (List ℕ) → List ℕ → Type 0
AreMembers q [] [] = ⊤
AreMembers q (a ∷ inputs) (c ∷ words) = (c < 2 ^ q.width) × IsMember q a c × AreMembers q inputs words
AreMembers q [] (c ∷ words) = ⊥
AreMembers q (a ∷ inputs) [] = ⊥

-- the values of the terms at the fields of all inputs
abbrev pub results : Question → List Term → List (List ℕ) → List ℕ
results q terms inputs = map (λ t. val q.width t (concat inputs)) terms

-- the result at all inputs covers the operation at all their members that meet the assumption
abbrev pub IsSound : Question → List Term → Type 0
IsSound q terms = (inputs : List (List ℕ)) → AreInputs q inputs → (words : List ℕ) → AreMembers q inputs words →
    q.Assumed words → IsMember q (results q terms inputs) (q.operation words)

-- each member of the one transformer's result is one of the other's, at all inputs
abbrev pub IsWithin : Question → List Term → List Term → Type 0
IsWithin q inner outer = (inputs : List (List ℕ)) → AreInputs q inputs → (c : ℕ) → c < 2 ^ q.width →
    IsMember q (results q inner inputs) c → IsMember q (results q outer inputs) c

-- at some inputs some member of the one transformer's result isn't one of the other's
pub record Exceeds (q : Question) (outer inner : List Term) : Type 0 where
  pub inputs : List (List ℕ)
  pub are_inputs : AreInputs q inputs
  pub word : ℕ
  pub below : word < 2 ^ q.width
  pub member : IsMember q (results q outer inputs) word
  pub no_member : ¬ IsMember q (results q inner inputs) word

-- the one transformer is strictly more precise than the other
pub record Betters (q : Question) (better worse : List Term) : Type 0 where
  pub within : IsWithin q better worse
  pub strict : Exceeds q worse better

-- derivable and sound, and no derivable sound transformer betters it
pub record IsBest (q : Question) (terms : List Term) : Type 0 where
  pub derivable : q.Derivable terms
  pub sound : IsSound q terms
  pub unbettered : (other : List Term) → q.Derivable other → IsSound q other → ¬ Betters q other terms

-- no derivable transformer is sound
abbrev pub IsAbsent : Question → Type 0
IsAbsent q = (terms : List Term) → q.Derivable terms → ¬ IsSound q terms
