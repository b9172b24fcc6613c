-- The clauses that a chain may name, among all clauses of a checker.
use Rattle.std.proofs.Common.{ℕ, ◌≡◌, ◌+◌, ◌<◌, List, [], ◌∷◌, ◌++◌, All, get_or, length, take, drop, refl, sym, ◌∙◌}
use Rattle.std.proofs.Common.{append_assoc, length-append, length-take, arith}
use Rattle.std.specs.Prelude.{Some, slice_get}
use Rattle.std.proofs.lemmas.List.{get_or_append_left, take-append-drop}
use Rattle.std.proofs.lemmas.Option.{get_or_from_slice_get, slice_get_within}
use Rattle.std.proofs.Math.Seq.{get_or-append_seam}
use Rattle.am_chain.specs.Checked.{Checked, all_clauses}
use Rattle.am_hint.specs.inside.Translated.{clauses_before}
use Rattle.am_hint.proofs.CutChains.{slice_get-append}

module _ (k : Checked) (count : ℕ) where
  split : clauses_before k count ++ drop count k.derived ≡ all_clauses k
  split =
      append_assoc k.given (take count k.derived) (drop count k.derived) ∙ rw (take-append-drop count k.derived) refl

  -- what holds of all clauses holds of those that a chain may name
  pub All-before : (P : List ℕ → Type 0) → All P (all_clauses k) → All P (clauses_before k count)
  All-before P all i d lt =
      let whole : All P (clauses_before k count ++ drop count k.derived) = rw split all in
      rw (get_or_append_left (clauses_before k count) (drop count k.derived) d i lt) at
      (whole i d (omega (arith, length-append (clauses_before k count) (drop count k.derived))))

  module _ (number : ℕ) (c : List ℕ) (there : slice_get (clauses_before k count) number ≡ Some c) where
    in_all : slice_get (all_clauses k) number ≡ Some c
    in_all = rw split at (slice_get-append (clauses_before k count) (drop count k.derived) number c there)

    -- a clause that a chain may name is the checker's with its number
    pub earlier_clause : get_or (all_clauses k) number [] ≡ c
    earlier_clause = get_or_from_slice_get (all_clauses k) number c [] in_all

    -- its number is below the count of all clauses
    pub earlier_within : number < length (all_clauses k)
    earlier_within = slice_get_within (all_clauses k) number c in_all

    -- it is given, or one of the first chains'
    pub earlier_numbered : number < length k.given + count
    earlier_numbered = omega (
      arith,
      slice_get_within (clauses_before k count) number c there,
      length-append k.given (take count k.derived),
      length-take count k.derived,
    )

-- a checker with one more chain's clause
abbrev pub with_clause : Checked → List ℕ → Checked
with_clause k c = record { given = k.given; derived = k.derived ++ c ∷ [] }

-- the clause of the newest chain stands after all others
pub newest_clause : (k after : Checked) (c here : List ℕ) (number : ℕ) → after ≡ with_clause k c
    → number ≡ length k.given + length k.derived → here ≡ get_or (all_clauses after) number [] → here ≡ c
newest_clause k after c here number grown at read =
    let whole : k.given ++ (k.derived ++ c ∷ []) ≡ all_clauses k ++ c ∷ [] =
    sym (append_assoc k.given k.derived (c ∷ [])) in
    let last : number ≡ length (all_clauses k) = omega (arith, at, length-append k.given k.derived) in
    read ∙ rw (grown, whole, last) (get_or-append_seam (all_clauses k) c [] [])
