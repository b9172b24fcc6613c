-- The terms of derived trees fit.
use Rattle.std.proofs.Common.{◌≡◌, ℕ, zero, suc, ◌+◌, ◌*◌, ◌<◌, List, [], ◌∷◌, ◌++◌, length, map, get_or, inl, inr}
use Rattle.std.proofs.Common.{refl, sym, ap, ◌∙◌, subst, arith}
use Rattle.std.specs.Prelude.{All, IsTrue, Option, None, Some, ◌==◌, slice_get}
use Rattle.std.specs.List.{AllZip, concat, list_all}
use Rattle.std.proofs.lemmas.Bool.{and_from, and_parts, cases_lt, eq-eqb, eqb-true}
use Rattle.std.proofs.lemmas.List.{get_or_past}
use Rattle.std.proofs.lemmas.List.Elements.{All-head, All-tail, All-weaker}
use Rattle.std.proofs.lemmas.Option.{get_or_from_slice_get, slice_get_within}
use Rattle.am_bv.specs.Operators.{arity}
use Rattle.am_bv.specs.Terms.{fits}
use Rattle.am_bv.specs.declared.term.Term.{Term}
use Rattle.am_bv.proofs.Laws.{fits-Node}
use Rattle.am_bv.specs.Words.{AreWords}
use Rattle.am_domain.specs.Meaning.{IsAbstract}
use Rattle.am_domain.specs.Question.{AreInputs}
use Rattle.am_domain.specs.Tuple.{IsTuple}
use Rattle.am_domain.proofs.Laws.{AreWords-nil, IsTuple-append}
use Rattle.am_problem.specs.Kinds.{fields_of, meaning_of}
use Rattle.am_problem.specs.Limits.{IsLeafOver, IsProblem}
use Rattle.am_problem.specs.Problem.{Problem, question_of}
use Rattle.am_tree.specs.Grammars.{is_production}
use Rattle.am_tree.specs.declared.grammar.Production.{Production}
use Rattle.am_tree.specs.declared.grammar.Production.TheVariants.{Leaf, Node}
use Rattle.am_tree.specs.declared.tree.Tree.{Tree}
use Rattle.am_tree.specs.Trees.{AreDerived, Derives, Rules, children_of, production_at, production_of, term_by}
use Rattle.am_tree.specs.Trees.{term_of, terms_at}
use Rattle.am_tree.proofs.Laws.{term-by}
use Rattle.am_all.specs.declared.cases.Case.{Case}
use Rattle.am_all.specs.inside.Cases.{AreCases, IsCaseOf}

-- what holds of all productions holds of each
at-production : (P : Production → Type 0) (rules : Rules) (n k : ℕ) (p : Production) → All (All P) rules →
    production_at rules n k ≡ Some p → P p
at-production P rules n k p all e = elim (cases_lt n (length rules)) [
  | inl l ↦
      let within : k < length (get_or rules n []) = slice_get_within (get_or rules n []) k p e in
      subst P (get_or_from_slice_get (get_or rules n []) k p p e) (all n [] l k p within)
  | inr past ↦
      let none : ◌≡◌ {A = Option Production} None (Some p) =
      ap (λ (ps : List Production). slice_get ps k) (sym (get_or_past rules n [] past)) ∙ e in
      cc
]

-- the terms of children at their nonterminals
pub children-fit : (Fits : Term → Type 0) (rules : Rules) (D : ℕ → Tree → Type 0) →
    ((n : ℕ) (t : Tree) → D n t → Fits (term_of rules n t)) →
    (P : List Term → Type 0) → P [] → ((t : Term) (ts : List Term) → Fits t → P ts → P (t ∷ ts)) →
    (names : List ℕ) (children : List Tree) → AllZip D names children →
    P (terms_at names (map (λ t n. term_of rules n t) children))
children-fit Fits rules D fit P none more [] [] h = none
children-fit Fits rules D fit P none more [] (t ∷ children) h = absurd h
children-fit Fits rules D fit P none more (n ∷ names) [] h = absurd h
children-fit Fits rules D fit P none more (n ∷ names) (t ∷ children) h =
    more (term_of rules n t) (terms_at names (map (λ t n. term_of rules n t) children)) (fit n t h.0)
    (children-fit Fits rules D fit P none more names children h.1)

-- there is a term for each
pub length-terms_at : (rules : Rules) (D : ℕ → Tree → Type 0) (names : List ℕ) (children : List Tree) →
    AllZip D names children →
    length (terms_at names (map (λ t n. term_of rules n t) children)) ≡ length names
length-terms_at rules D [] [] h = refl
length-terms_at rules D [] (t ∷ children) h = absurd h
length-terms_at rules D (n ∷ names) [] h = absurd h
length-terms_at rules D (n ∷ names) (t ∷ children) h = ap suc (length-terms_at rules D names children h.1)

-- the term of a production over children whose terms fit
production-fits : (w m count : ℕ) (rules : Rules) (D : ℕ → Tree → Type 0) →
    ((n : ℕ) (t : Tree) → D n t → IsTrue (fits w m (term_of rules n t))) →
    (p : Production) (children : List Tree) → IsTrue (is_production count p) → IsLeafOver w m p →
    AreDerived D (Some p) children →
    IsTrue (fits w m (term_by (Some p) (map (λ t n. term_of rules n t) children)))
production-fits w m count rules D fit (Leaf t) children formed over h = over
production-fits w m count rules D fit (Node op names) children formed over h =
    let args = terms_at names (map (λ t n. term_of rules n t) children) in
    let many : length args ≡ arity op =
    length-terms_at rules D names children h ∙ eqb-true (length names) (arity op) (and_parts _ _ formed).0 in
    let each : IsTrue (list_all (fits w m) args) =
    children-fit (λ t. IsTrue (fits w m t)) rules D fit (λ ts. IsTrue (list_all (fits w m) ts)) refl
    (λ t ts here rest. and_from _ _ here rest) names children h in
    rw (fits-Node w m op args) (and_from (length args == arity op) (list_all (fits w m) args) (eq-eqb _ _ many) each)

-- the term of a tree whose children's terms fit
derived-step : (w m : ℕ) (rules : Rules) → All (All (λ p. IsTrue (is_production (length rules) p))) rules →
    All (All (IsLeafOver w m)) rules →
    (D : ℕ → Tree → Type 0) → ((n : ℕ) (t : Tree) → D n t → IsTrue (fits w m (term_of rules n t))) →
    (n : ℕ) (t : Tree) →
    (o : Option Production) → production_at rules n (production_of t) ≡ o → AreDerived D o (children_of t) →
    IsTrue (fits w m (term_of rules n t))
derived-step w m rules formed leaves D fit n t None e a = absurd a
derived-step w m rules formed leaves D fit n t (Some p) e a =
    rw (term-by rules n t, e)
    (production-fits w m (length rules) rules D fit p (children_of t)
    (at-production (λ p. IsTrue (is_production (length rules) p)) rules n (production_of t) p formed e)
    (at-production (IsLeafOver w m) rules n (production_of t) p leaves e) a)

-- the term of a derived tree fits
pub derived-fits : (w m : ℕ) (rules : Rules) → All (All (λ p. IsTrue (is_production (length rules) p))) rules →
    All (All (IsLeafOver w m)) rules →
    (d n : ℕ) (t : Tree) → Derives rules d n t → IsTrue (fits w m (term_of rules n t))
derived-fits w m rules formed leaves zero n t h = absurd h
derived-fits w m rules formed leaves (suc d) n t h =
    derived-step w m rules formed leaves (Derives rules d) (derived-fits w m rules formed leaves d) n t
    (production_at rules n (production_of t)) refl h

-- the fields of inputs in a row
concat-tuple : (w k : ℕ) (rows : List (List ℕ)) → All (IsTuple w k) rows → IsTuple w (length rows * k) (concat rows)
concat-tuple w k [] h = record { counted = (let e : 0 ≡ 0 * k = omega arith in e); words = AreWords-nil w }
concat-tuple w k (row ∷ rows) h =
    subst (λ n. IsTuple w n (row ++ concat rows))
    (let e : k + length rows * k ≡ suc (length rows) * k = omega arith in e)
    (IsTuple-append w k (length rows * k) row (concat rows) (All-head (IsTuple w k) row rows h)
    (concat-tuple w k rows (All-tail (IsTuple w k) row rows h)))

-- the fields of all inputs are a tuple
pub inputs-tuple : (p : Problem) (inputs : List (List ℕ)) → AreInputs (question_of p) inputs →
    IsTuple p.width (p.inputs * fields_of p.kind) (concat inputs)
inputs-tuple p inputs valid =
    subst (λ n. IsTuple p.width (n * fields_of p.kind) (concat inputs)) valid.counted
    (concat-tuple p.width (fields_of p.kind) inputs
    (All-weaker (IsAbstract (meaning_of p.kind) p.width) (IsTuple p.width (fields_of p.kind))
    (λ a is. is.tuple) inputs valid.values))

-- the term of a derived tree fits the fields of each case
pub fits-cases : (p : Problem) (cases : List Case) → IsProblem p → AreCases p cases → (n : ℕ) (t : Tree) →
    Derives p.rules p.depth n t →
    All (λ case. IsTrue (fits p.width (length case.fields) (term_of p.rules n t)) × AreWords p.width case.fields) cases
fits-cases p cases limits are n t derives =
    All-weaker (λ case. (inputs : List (List ℕ)) × IsCaseOf p inputs case)
    (λ case. IsTrue (fits p.width (length case.fields) (term_of p.rules n t)) × AreWords p.width case.fields)
    (λ case is.
    let tuple = inputs-tuple p is.0 is.1.valid in
    let fit = derived-fits p.width
    (p.inputs * fields_of p.kind) p.rules limits.formed.grammar.productions limits.formed.leaves p.depth n t
    derives in
    rw (is.1.fields, tuple.counted) (fit, tuple.words))
    cases are.each
