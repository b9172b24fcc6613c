-- Tuples of candidates: their trees, their terms, and the numbers of their results.
use Rattle.std.proofs.Common.{◌≡◌, ℕ, ◌*◌, ◌^◌, ◌<◌, ◌≤◌, List, [], ◌∷◌, length, map, get_or, refl, sym, ap, ◌∙◌}
use Rattle.std.proofs.Common.{subst, arith}
use Rattle.std.specs.Prelude.{All, Contains, IsTrue, slice_index, slice_index_or}
use Rattle.std.specs.List.{AllZip}
use Rattle.std.proofs.lemmas.List.{ext_get_or, get_or-map, length-map}
use Rattle.std.proofs.lemmas.List.Elements.{All-cons, All-contains, All-contains_itself, All-map, All-nil, All-weaker}
use Rattle.am_bv.specs.Terms.{fits, val}
use Rattle.am_bv.specs.declared.term.Term.{Term}
use Rattle.am_bv.specs.Words.{AreWords}
use Rattle.am_bv.proofs.Laws.{val-word}
use Rattle.am_problem.specs.Kinds.{fields_of}
use Rattle.am_problem.specs.Limits.{IsProblem}
use Rattle.am_problem.specs.Problem.{Problem}
use Rattle.am_tree.specs.declared.tree.Tree.{Tree}
use Rattle.am_tree.specs.Trees.{AreTrees, Derives, Rules, term_of, terms_of}
use Rattle.am_tree.proofs.Laws.{zip-lengths}
use Rattle.am_tree.specs.Listed.{choices, trees_of}
use Rattle.am_all.specs.declared.candidates.Candidate.{Candidate}
use Rattle.am_all.specs.declared.cases.Case.{Case}
use Rattle.am_all.specs.declared.word_set.WordSet.{WordSet}
use Rattle.am_all.specs.inside.Candidates.{AreCandidates, HasCaseValues, values_at}
use Rattle.am_all.specs.inside.Cases.{AreCases}
use Rattle.am_all.specs.inside.Leaders.{AreFacts, AreTuples, IsResult, IsTupleOf, numbers_of, tree_numbers}
use Rattle.am_all.specs.inside.Numbers.{tuple_number}
use Rattle.am_all.specs.inside.Results.{AreResultNumbers}
use Rattle.am_all.proofs.ChoiceLaws.{choices-map, map-map}
use Rattle.am_all.proofs.Deciding.{AreTerms, numbers-result}
use Rattle.am_all.proofs.FitLaws.{children-fit, derived-fits, fits-cases, length-terms_at}
use Rattle.am_all.proofs.InputLaws.{each-word}
use Rattle.am_all.proofs.Lists.{all-unmap}
use Rattle.am_all.proofs.PickLaws.{choices-are}
use Rattle.am_all.proofs.TreeLaws.{tuples-listed}

-- the terms of a tuple of trees are terms of a result
pub trees-terms : (p : Problem) → IsProblem p → (ts : List Tree) → AreTrees p.rules p.starts p.depth ts →
    AreTerms p (terms_of p.rules p.starts ts)
trees-terms p limits ts are = record {
  counted = length-terms_at p.rules (Derives p.rules p.depth) p.starts ts are ∙ limits.formed.start_per_field;
  fit =
      let Fits : Term → Type 0 = λ t. IsTrue (fits p.width (p.inputs * fields_of p.kind) t) in
      children-fit Fits p.rules (Derives p.rules p.depth)
      (derived-fits p.width (p.inputs * fields_of p.kind) p.rules limits.formed.grammar.productions
      limits.formed.leaves p.depth)
      (All Fits) (All-nil Fits) (λ t ts here rest. All-cons Fits t ts here rest) p.starts ts are;
}

-- the words of candidates at a case are the values of their terms
words-values : (w : ℕ) (rules : Rules) (cases : List Case) (i : ℕ) (d : Case) → i < length cases →
    (starts : List ℕ) (tuple : List Candidate) →
    AllZip (λ start (c : Candidate). c.values ≡ values_at w cases (term_of rules start c.tree)) starts tuple →
    map (λ (c : Candidate). slice_index c.values i) tuple ≡ map (λ t. val w t (slice_index_or cases i d).fields)
    (terms_of rules starts (map (λ (c : Candidate). c.tree) tuple))
words-values w rules cases i d l [] [] h = refl
words-values w rules cases i d l [] (c ∷ tuple) h = absurd h
words-values w rules cases i d l (start ∷ starts) [] h = absurd h
words-values w rules cases i d l (start ∷ starts) (c ∷ tuple) h =
    let t = term_of rules start c.tree in
    let here : slice_index c.values i ≡ val w t (slice_index_or cases i d).fields =
    ap (λ vs. slice_index vs i) h.0 ∙ get_or-map (λ (case : Case). val w t case.fields) cases i d 0 l in
    let rest = words-values w rules cases i d l starts tuple h.1 in
    ap (λ v. v ∷ map (λ (c : Candidate). slice_index c.values i) tuple) here ∙ ap
    (λ vs. val w t (slice_index_or cases i d).fields ∷ vs) rest

-- the numbers that are found are those of the terms
pub found-numbers : (p : Problem) (cases : List Case) (tuple : List Candidate) (numbers : List ℕ) →
    IsTupleOf p cases tuple → AreResultNumbers p.width tuple (length cases) numbers →
    numbers ≡ tree_numbers p cases (map (λ c. c.tree) tuple)
found-numbers p cases tuple numbers is found =
    let terms = terms_of p.rules p.starts (map (λ (c : Candidate). c.tree) tuple) in
    let number = λ (case : Case). tuple_number p.width (map (λ t. val p.width t case.fields) terms) in
    ext_get_or 0 numbers (numbers_of p cases terms) (found.counted ∙ sym (length-map cases number))
    (λ i l.
    let below : i < length cases = omega (arith, l, found.counted) in
    let d : Case = record { fields = []; images = record { parts = [] } } in
    found.each i below ∙ ap (tuple_number p.width) (words-values p.width p.rules cases i d below p.starts tuple is)
    ∙ sym (get_or-map number cases i d 0 below))

-- what the search for the numbers needs

-- a tuple of words has few bits
pub tuple-few : (p : Problem) (cases : List Case) (tuple : List Candidate) → IsProblem p →
    p.width * fields_of p.kind ≤ 16 → IsTupleOf p cases tuple → p.width * length tuple ≤ 16
tuple-few p cases tuple limits few is =
    let long : length tuple ≡ fields_of p.kind =
    sym (zip-lengths (HasCaseValues p cases) p.starts tuple is) ∙ limits.formed.start_per_field in
    rw long few

candidates-each : (p : Problem) (cases : List Case) → IsProblem p → AreCases p cases →
    (starts : List ℕ) (tuple : List Candidate) →
    AllZip (HasCaseValues p cases) starts tuple →
    AllZip (Derives p.rules p.depth) starts (map (λ (c : Candidate). c.tree) tuple) →
    All (λ c. (length c.values ≡ length cases) × AreWords p.width c.values) tuple
candidates-each p cases limits are [] [] is derive =
    All-nil (λ (c : Candidate). (length c.values ≡ length cases) × AreWords p.width c.values)
candidates-each p cases limits are [] (c ∷ tuple) is derive = absurd is
candidates-each p cases limits are (start ∷ starts) [] is derive = absurd is
candidates-each p cases limits are (start ∷ starts) (c ∷ tuple) is derive =
    let t = term_of p.rules start c.tree in
    let fit = fits-cases p cases limits are start c.tree derive.0 in
    let words : AreWords p.width (values_at p.width cases t) =
    each-word p.width (values_at p.width cases t)
    (All-map (λ v. v < 2 ^ p.width) (λ (case : Case). val p.width t case.fields) cases
    (All-weaker (λ (case : Case). IsTrue (fits p.width (length case.fields) t) × AreWords p.width case.fields)
    (λ case. val p.width t case.fields < 2 ^ p.width)
    (λ case is. val-word p.width (omega (arith, limits.formed.width)) case.fields is.1 t is.0) cases fit)) in
    All-cons (λ (c : Candidate). (length c.values ≡ length cases) × AreWords p.width c.values) c tuple (
      ap length is.0 ∙ length-map cases (λ (case : Case). val p.width t case.fields),
      subst (AreWords p.width) (sym is.0) words,
    )
    (candidates-each p cases limits are starts tuple is.1 derive.1)

-- each candidate has a word for each case
pub tuple-each : (p : Problem) (cases : List Case) (tuple : List Candidate) → IsProblem p → AreCases p cases →
    IsTupleOf p cases tuple →
    AreTrees p.rules p.starts p.depth (map (λ c. c.tree) tuple) →
    All (λ c. (length c.values ≡ length cases) × AreWords p.width c.values) tuple
tuple-each p cases tuple limits are is derive = candidates-each p cases limits are p.starts tuple is derive

-- each tuple of the list has its values, and its trees derive from the starts
pub tuples-each : (p : Problem) (cases : List Case) (tuples : List (List Candidate)) → AreTuples p cases tuples →
    All (λ tuple. IsTupleOf p cases tuple × AreTrees p.rules p.starts p.depth (map (λ c. c.tree) tuple)) tuples
tuples-each p cases tuples are = λ k d l.
    let trees = λ (tuple : List Candidate). map (λ (c : Candidate). c.tree) tuple in
    let tuple = get_or tuples k d in
    let stands : Contains (map trees tuples) (trees tuple) =
    (k, simp length-map l, get_or-map trees tuples k d (trees tuple) l) in (
      are.values k d l,
      (tuples-listed p.rules p.starts p.depth (trees tuple)).0
          (subst (λ ts. Contains ts (trees tuple)) are.trees stands),
    )

-- the trees of rows that are seen as tuples of candidates
pub views-are : {X : Type 0} (now : X → Candidate) (tuples : List (List X)) →
    map (λ tuple. map (λ c. (now c).tree) tuple) tuples ≡ map (λ tuple. map (λ (c : Candidate). c.tree) tuple)
    (map (λ tuple. map now tuple) tuples)
views-are now [] = refl
views-are now (tuple ∷ tuples) =
    ap (λ ts. ts ∷ map (λ tuple. map (λ c. (now c).tree) tuple) tuples)
    (sym (map-map (λ (c : Candidate). c.tree) now tuple))
    ∙ ap (λ rest. map (λ (c : Candidate). c.tree) (map now tuple) ∷ rest) (views-are now tuples)

-- a row of the list, as the loops over it see it
pub view-each : {X : Type 0} (now : X → Candidate) (p : Problem) (cases : List Case) (tuples : List (List X)) (i : ℕ)
    (tuple : List X) →
    AreTuples p cases (map (λ row. map now row) tuples) → i < length tuples → tuple ≡ get_or tuples i tuple →
    IsTupleOf p cases (map now tuple) × AreTrees p.rules p.starts p.depth (map (λ c. (now c).tree) tuple)
view-each now p cases tuples i tuple are l is =
    let each = all-unmap (λ (row : List Candidate). IsTupleOf p cases row × AreTrees p.rules p.starts p.depth
    (map (λ c. c.tree) row)) (λ row. map now row) tuples
    (tuples-each p cases (map (λ row. map now row) tuples) are) i tuple l in
    let here = subst (λ row. IsTupleOf p cases (map now row) × AreTrees p.rules p.starts p.depth
    (map (λ (c : Candidate). c.tree) (map now row))) (sym is) each in
    (here.0, subst (AreTrees p.rules p.starts p.depth) (map-map (λ (c : Candidate). c.tree) now tuple) here.1)

-- the numbers of a tuple of trees have sets
pub tree-result : (p : Problem) (sets : List WordSet) (cases : List Case) (ts : List Tree) → IsProblem p →
    AreFacts p sets cases → AreTrees p.rules p.starts p.depth ts →
    IsResult (length cases) (length sets) (tree_numbers p cases ts)
tree-result p sets cases ts limits facts are =
    numbers-result p sets cases limits facts (terms_of p.rules p.starts ts) (trees-terms p limits ts are)

-- the choices from the candidates of each start are all tuples

lists-trees : (p : Problem) (cases : List Case) (starts : List ℕ) (lists : List (List Candidate)) →
    AllZip (AreCandidates p cases) starts lists →
    map (map (λ (c : Candidate). c.tree)) lists ≡ map (trees_of p.rules p.depth) starts
lists-trees p cases [] [] h = refl
lists-trees p cases [] (list ∷ lists) h = absurd h
lists-trees p cases (start ∷ starts) [] h = absurd h
lists-trees p cases (start ∷ starts) (list ∷ lists) h =
    ap (λ ts. ts ∷ map (map (λ (c : Candidate). c.tree)) lists) h.0.trees ∙ ap
    (λ rest. trees_of p.rules p.depth start ∷ rest) (lists-trees p cases starts lists h.1)

row-tuple : (p : Problem) (cases : List Case) (starts : List ℕ) (lists : List (List Candidate))
    (row : List Candidate) → AllZip (AreCandidates p cases) starts lists →
    AllZip Contains lists row → AllZip (HasCaseValues p cases) starts row
row-tuple p cases [] [] [] h stands = tt
row-tuple p cases [] [] (c ∷ row) h stands = absurd stands
row-tuple p cases [] (list ∷ lists) row h stands = absurd h
row-tuple p cases (start ∷ starts) [] row h stands = absurd h
row-tuple p cases (start ∷ starts) (list ∷ lists) [] h stands = absurd stands
row-tuple p cases (start ∷ starts) (list ∷ lists) (c ∷ row) h stands = (
  All-contains (HasCaseValues p cases start) list c h.0.values stands.0,
  row-tuple p cases starts lists row h.1 stands.1,
)

-- the choices from the candidates of each start are all tuples
pub choices-tuples : (p : Problem) (cases : List Case) (lists : List (List Candidate)) →
    AllZip (AreCandidates p cases) p.starts lists → AreTuples p cases (choices lists)
choices-tuples p cases lists h = record {
  trees = sym (choices-map (λ (c : Candidate). c.tree) lists) ∙ ap choices (lists-trees p cases p.starts lists h);
  values = All-weaker (Contains (choices lists)) (IsTupleOf p cases)
      (λ row stands. row-tuple p cases p.starts lists row h ((choices-are lists row).0 stands)) (choices lists)
      (All-contains_itself (choices lists));
}
