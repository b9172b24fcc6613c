-- Terms that are given by trees, one from each start.
use Rattle.std.proofs.Common.{◌≡◌, ℕ, ◌+◌, ◌<◌, ◌≤◌, false, true, inl, List, get_or, length, take, zip, arith}
use Rattle.std.specs.Prelude.{Option, None, Some, is_some, slice_get}
use Rattle.std.specs.List.{All}
use Rattle.std.proofs.lemmas.Option.{get_or_from_slice_get}
use Rattle.std.proofs.lemmas.Slice.Zip.{get_or-zip, length-zip}
use Rattle.am_bv.specs.declared.term.Term.{Term}
use Rattle.am_problem.specs.Problem.{Problem}
use Rattle.am_query.specs.Acceptance.{IsGiven, terms_inside}
use Rattle.am_query.specs.declared.fault.Fault.TheVariants.{TermOutside}
use Rattle.am_tree.specs.Trees.{IsFound}
use Rattle.am_tree.specs.declared.tree.Tree.{Tree}
use Rattle.am_cert.proofs.TestedItems.{bad_fails, good_more, good_passes}

module _ (p : Problem) where
  -- whether a term is given, where a tree was sought
  pub found_given : (start : ℕ) (term : Term) (found : Option Tree) → IsFound p.rules p.depth start term found →
      is_some found ≡ true → IsGiven p start term
  found_given start term None is some = cc
  found_given start term (Some tree) is some = (tree, is)

  pub none_given : (start : ℕ) (term : Term) (found : Option Tree) → IsFound p.rules p.depth start term found →
      is_some found ≡ false → ¬ IsGiven p start term
  none_given start term None is none given = is given.0 given.1
  none_given start term (Some tree) is none given = cc

-- terms that are looked up one after another, of which the first i are given
module _ (p : Problem) (terms : List Term) (i : ℕ) (counted : length terms ≡ length p.starts)
    (so_far : All (λ (start, term). IsGiven p start term) (take i (zip p.starts terms))) where
  abbrev Given : ℕ × Term → Type 0
  Given (start, term) = IsGiven p start term

  count : length (zip p.starts terms) ≡ length terms
  count = omega (arith, counted, length-zip p.starts terms)

  -- once all terms are given, the test of the terms passes
  pub all_inside : length terms ≤ i → (terms_inside p terms).Passes
  all_inside past = (
    good_passes Given (zip p.starts terms) i so_far TermOutside (omega (arith, count, past)),
    counted,
  )

  module _ (start : ℕ) (term : Term) (found : Option Tree) (within : i < length terms)
      (there : slice_get p.starts i ≡ Some start) (here : term ≡ get_or terms i term)
      (is : IsFound p.rules p.depth start term found) where
    both : (start, term) ≡ get_or (zip p.starts terms) i (start, term)
    both =
        let less : i < length p.starts = omega (arith, within, counted) in
        cc (get_or-zip p.starts terms i (start, term) less within, get_or_from_slice_get p.starts i start start there)

    inside : i < length (zip p.starts terms)
    inside = omega (arith, within, count)

    -- a term whose tree was found is given, as those before it are
    pub term_given : is_some found ≡ true → All Given (take (i + 1) (zip p.starts terms))
    term_given some =
        good_more Given (zip p.starts terms) i so_far (start, term) inside both (found_given p start term found is some)

    -- a term whose tree wasn't found is the fault of the test
    pub term_outside : is_some found ≡ false → (terms_inside p terms).Fails (TermOutside i)
    term_outside none =
        inl (bad_fails Given (zip p.starts terms) i so_far (start, term) inside both TermOutside
        (none_given p start term found is none))
