-- Rows of true literals with a value for each literal.
use Rattle.std.proofs.Common.{ℕ, ◌≡◌, ◌≢◌, ◌+◌, ◌*◌, ◌<◌, ◌≤◌, List, [], ◌∷◌, ◌++◌, length, get_or, set, replicate, sym}
use Rattle.std.proofs.Common.{ap, ◌∙◌, inl, inr, arith}
use Rattle.std.specs.Prelude.{Contains}
use Rattle.std.proofs.lemmas.List.{length-set, get_or-set_same, get_or-set_other, get_or-replicate, get_or_default}
use Rattle.std.proofs.lemmas.List.{length-replicate}
use Rattle.std.proofs.lemmas.List.Elements.{Contains-push, Contains-push_cases, Contains-append_left}
use Rattle.am_lit.specs.Literal.{variable_of, opposite_of}
use Rattle.am_lit.specs.UnitRow.{IsFree}
use Rattle.am_lit.proofs.Laws.{Contains-nil, same_or, opposite_of-differs, opposite_of-opposite_of, opposite_parts}
use Rattle.am_trail.specs.declared.values.Value.{Value}
use Rattle.am_trail.specs.declared.values.Value.TheVariants.{Free, True, False}
use Rattle.am_trail.specs.inside.Values.{AreLiteralValues, IsLiteralValue}

-- where no literal is true none has a value
pub no_values : (n : ℕ) → AreLiteralValues [] (replicate n Free)
no_values n l lt =
    let inside : l < n = omega (arith, length-replicate {A = Value} n Free) in
    rw (get_or-replicate {A = Value} n l Free Free inside) (Contains-nil l, Contains-nil (opposite_of l))

absent : (row : List ℕ) (m l : ℕ) → ¬ (Contains row l) → m ≢ l → ¬ (Contains (row ++ m ∷ []) l)
absent row m l out ne there = elim (Contains-push_cases row m l there) [ inl t ↦ out t | inr e ↦ ne e ]

present : (row : List ℕ) (m l : ℕ) → m ≢ l → Contains (row ++ m ∷ []) l → Contains row l
present row m l ne there = elim (Contains-push_cases row m l there) [ inl t ↦ t | inr e ↦ absurd (ne e) ]

-- literals of other variables keep their values
longer : (row : List ℕ) (m l : ℕ) (value : Value) → m ≢ l → m ≢ opposite_of l → IsLiteralValue row l value
    → IsLiteralValue (row ++ m ∷ []) l value
longer row m l Free a b h = (absent row m l h.0 a, absent row m (opposite_of l) h.1 b)
longer row m l True a b h = Contains-append_left row (m ∷ []) l h
longer row m l False a b h = Contains-append_left row (m ∷ []) (opposite_of l) h

shorter : (row : List ℕ) (m l : ℕ) (value : Value) → m ≢ l → m ≢ opposite_of l → IsLiteralValue (row ++ m ∷ []) l value
    → IsLiteralValue row l value
shorter row m l Free a b h = (
  λ t. h.0 (Contains-append_left row (m ∷ []) l t),
  λ t. h.1 (Contains-append_left row (m ∷ []) (opposite_of l) t),
)
shorter row m l True a b h = present row m l a h
shorter row m l False a b h = present row m (opposite_of l) b h

-- the values of a literal and its opposite are written
module _ (values : List Value) (m : ℕ) (first second : Value) (lm : m < length values)
    (lo : opposite_of m < length values) where
  written : List Value
  written = set (set values m first) (opposite_of m) second

  length-written : length written ≡ length values
  unfolding written
  length-written = length-set (set values m first) (opposite_of m) second ∙ length-set values m first

  at_first : get_or written m Free ≡ first
  unfolding written
  at_first = get_or-set_other (set values m first) (opposite_of m) m second Free (λ e. opposite_of-differs m (sym e))
      ∙ get_or-set_same values m first Free lm

  at_second : get_or written (opposite_of m) Free ≡ second
  unfolding written
  at_second = get_or-set_same (set values m first) (opposite_of m) second Free (rw length-set lo)

  at_other : (l : ℕ) → l ≢ m → l ≢ opposite_of m → get_or written l Free ≡ get_or values l Free
  unfolding written
  at_other l a b = get_or-set_other (set values m first) (opposite_of m) l second Free b
      ∙ get_or-set_other values m l first Free a

  by_parts : (row : List ℕ) → IsLiteralValue row m first → IsLiteralValue row (opposite_of m) second
      → ((l : ℕ) → l ≢ m → l ≢ opposite_of m → l < length values → IsLiteralValue row l (get_or values l Free))
      → AreLiteralValues row written
  by_parts row one two others l lt = elim (same_or l m) [
    | inl e ↦ rw (e, at_first) one
    | inr a ↦ elim (same_or l (opposite_of m)) [
      | inl e ↦ rw (e, at_second) two
      | inr b ↦ rw (at_other l a b) (others l a b (omega (arith, length-written)))
    ]
  ]

-- the codes of a variable's two literals
pub inside : (m n : ℕ) → 2 * variable_of m + 2 ≤ n → (m < n) × (opposite_of m < n)
inside m n le = elim (opposite_parts m) [
  | inl p ↦ (omega arith, omega (arith, p.0, p.1))
  | inr
      p ↦ (omega arith, omega (arith, p.1))
]

-- a literal has become true
pub true_values : (row : List ℕ) (values : List Value) (m : ℕ) → 2 * variable_of m + 2 ≤ length values
    → AreLiteralValues row values
    → AreLiteralValues (row ++ m ∷ []) (set (set values m True) (opposite_of m) False)
unfolding written
true_values row values m le h =
    let codes = inside m (length values) le in
    by_parts values m True False codes.0 codes.1 (row ++ m ∷ []) (Contains-push row m)
    (rw opposite_of-opposite_of (Contains-push row m))
    (λ l a b lt. longer row m l (get_or values l Free) (λ e. a (sym e))
    (λ e. b (sym (opposite_of-opposite_of l) ∙ ap opposite_of (sym e))) (h l lt))

-- the last literal has no value any more
pub free_values : (row : List ℕ) (values : List Value) (m : ℕ) → 2 * variable_of m + 2 ≤ length values
    → AreLiteralValues (row ++ m ∷ []) values → IsFree row m
    → AreLiteralValues row (set (set values m Free) (opposite_of m) Free)
unfolding written
free_values row values m le h free =
    let codes = inside m (length values) le in
    by_parts values m Free Free codes.0 codes.1 row free (free.1, rw opposite_of-opposite_of free.0)
    (λ l a b lt. shorter row m l (get_or values l Free) (λ e. a (sym e))
    (λ e. b (sym (opposite_of-opposite_of l) ∙ ap opposite_of (sym e))) (h l lt))

-- the value that stands at a literal's code
pub value_there : (row : List ℕ) (values : List Value) (l code : ℕ) (value : Value)
    → 2 * variable_of l + 2 ≤ length values → AreLiteralValues row values → code ≡ l
    → value ≡ get_or values code value → IsLiteralValue row l value
value_there row values l code value le h at is =
    let lt = (inside l (length values) le).0 in
    let same : value ≡ get_or values l Free =
    is ∙ ap (λ k. get_or values k value) at ∙ get_or_default values l value Free lt in
    rw same (h l lt)
