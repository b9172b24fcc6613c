-- What printing rests on: which terms fit somewhere, and the texts of the lines that have nonterminals.
use Rattle.std.proofs.Common.{◌≡◌, ℕ, zero, suc, ◌*◌, ◌<◌, ◌≤◌, ◌^◌, List, [], ◌∷◌, ◌++◌, length, get_or, map}
use Rattle.std.proofs.Common.{flat_map, codes, All, Some, ap, subst, sym, refl, ◌∙◌, arith, append_assoc}
use Rattle.std.specs.List.{AllByRecursion}
use Rattle.std.specs.Prelude.{IfSome, IsTrue}
use Rattle.std.proofs.lemmas.Bool.{and_parts}
use Rattle.std.proofs.lemmas.Grind.{flat_map-append}
use Rattle.std.proofs.lemmas.List.Concat.{flat_map_single}
use Rattle.std.proofs.lemmas.List.Folds.{flat_map-map}
use Rattle.std.proofs.Math.Nat.{mul-le-mul_left}
use Rattle.am_bv.specs.declared.op.Op.{Op}
use Rattle.am_bv.specs.declared.term.Term.{Term}
use Rattle.am_syntax.proofs.Laws.{EachApart, StandApart, both_apart, each_text, name_apart, node_apart, node_text}
use Rattle.am_syntax.proofs.Laws.{spaced_apart, spaced_each, term_apart, word_apart}
use Rattle.am_syntax.specs.Canonical.{line, lines, spaced}
use Rattle.am_syntax.specs.Names.{op_name}
use Rattle.am_syntax.specs.Numerals.{is_name}
use Rattle.am_syntax.specs.Readers.{Word, Words}
use Rattle.am_syntax.specs.Spelling.{FitsSomewhere, IsScope}
use Rattle.am_syntax.specs.declared.limits.Letter.TheVariants.{X, F}
use Rattle.am_tree.specs.Trees.{Rules}
use Rattle.am_tree.specs.declared.grammar.Production.{Production as Numbered}
use Rattle.am_tree.specs.declared.grammar.Production.TheVariants.{Leaf, Node}
use Rattle.am_problem.specs.declared.kind.Kind.{Kind}
use Rattle.am_problem.specs.Grammar.{scope_at}
use Rattle.am_problem.specs.Kinds.{fields_of}
use Rattle.am_problem.specs.Limits.{IsFormed, IsLeafOver, IsOperation, IsProductionOf}
use Rattle.am_problem.specs.Printing.{budget_rows, domain_rows, header_rows, problem_text, production_words, rule_row}
use Rattle.am_problem.specs.Problem.{Problem}
use Rattle.am_problem.specs.Texts.{name_at, named, named_production, named_rule, named_rules}
use Rattle.am_problem.specs.lemmas.KindLaws.{laws_of}
use Rattle.am_problem.proofs.LineLaws.{input_scope}
use Rattle.am_problem.proofs.Lists.{all_items}
use Rattle.am_problem.proofs.Named.{AreBelow, below_by}

-- ---- terms that fit somewhere

-- there are few fields, whatever the domain
pub few_variables : (n : ℕ) (kind : Kind) → n ≤ 3 → n * fields_of kind < 2 ^ 64
few_variables n kind few =
    let most : n * fields_of kind ≤ n * 4 = mul-le-mul_left n (laws_of kind).few_fields in
    omega (arith, most, few)

leaf_scope : (p : Problem) → IsFormed p → IsScope (scope_at p.width F (p.inputs * fields_of p.kind))
leaf_scope p is = record { width = is.width.1; variables = few_variables p.inputs p.kind is.few_inputs }

-- the operation fits over the inputs
pub operation_fits : (p : Problem) → IsFormed p → FitsSomewhere p.operation
operation_fits p is = record {
  scope = scope_at p.width X p.inputs;
  is = input_scope p.width p.inputs is.width.1 is.few_inputs;
  fit = is.operation.fit;
}

-- so does an assumption
pub assumption_fits : (p : Problem) → IsFormed p → (t : Term) → p.assume ≡ Some t → FitsSomewhere t
assumption_fits p is t e =
    let own : IsOperation p.width p.inputs t = subst (λ o. IfSome o (IsOperation p.width p.inputs)) e is.assume in
    record {
      scope = scope_at p.width X p.inputs;
      is = input_scope p.width p.inputs is.width.1 is.few_inputs;
      fit = own.fit;
    }

-- a leaf fits over the fields
pub leaf_fits : (p : Problem) → IsFormed p → (q : Numbered) → IsProductionOf p q → (t : Term) → q ≡ Leaf t →
    FitsSomewhere t
leaf_fits p is q known t e =
    let fields = p.inputs * fields_of p.kind in
    let own : IsLeafOver p.width fields (Leaf t) = subst (IsLeafOver p.width fields) e known.over in
    record { scope = scope_at p.width F fields; is = leaf_scope p is; fit = own }

-- ---- names

module _ (names : List Word) (called : All (λ v. IsTrue (is_name v)) names) where
  abbrev name_words : ℕ → Words
  name_words n = name_at names n ∷ []

  abbrev names_text : List ℕ → List ℕ
  names_text ns = flat_map (λ n. 32 ∷ name_at names n) ns

  names_apart : (ns : List ℕ) → AreBelow (length names) ns → EachApart name_words ns
  names_apart [] h = tt
  names_apart (n ∷ ns) h = (name_apart (name_at names n) (called n [] h.0), names_apart ns h.1)

  -- the line of the starts
  pub start_text : (ns : List ℕ) → AreBelow (length names) ns →
      line (codes "start" ∷ map (name_at names) ns) ≡ codes "start" ++ (names_text ns ++ 10 ∷ [])
  unfolding line
  start_text ns below =
      ap (λ (ws : Words). spaced (codes "start" ∷ ws) ++ 10 ∷ []) (sym (flat_map_single (name_at names) ns))
      ∙ ap (λ (bs : List ℕ). bs ++ 10 ∷ [])
      (spaced_each name_words (codes "start" ∷ []) ns (word_apart (codes "start") refl refl) (names_apart ns below))
      ∙ append_assoc (codes "start") (names_text ns) (10 ∷ [])

  -- the text of an operator at nonterminals
  pub call_text : (op : Op) (ns : List ℕ) → AreBelow (length names) ns →
      spaced (production_words (named_production names (Node op ns))) ≡
      codes "(" ++ (op_name op ++ (names_text ns ++ codes ")"))
  call_text op ns below =
      ap (λ (ws : Words). spaced (codes "(" ∷ op_name op ∷ (ws ++ codes ")" ∷ [])))
      (sym (flat_map_single (name_at names) ns))
      ∙ node_text name_words op ns (names_apart ns below)

  call_apart : (op : Op) (ns : List ℕ) → AreBelow (length names) ns →
      StandApart (production_words (named_production names (Node op ns)))
  call_apart op ns below =
      subst (λ (ws : Words). StandApart (codes "(" ∷ op_name op ∷ (ws ++ codes ")" ∷ [])))
      (flat_map_single (name_at names) ns) (node_apart name_words op ns (names_apart ns below))

-- ---- productions and rules

module _ (p : Problem) (is : IsFormed p) where
  abbrev words_in : Numbered → Words
  words_in q = production_words (named_production p.names q)

  production_apart : (q : Numbered) → IsProductionOf p q → StandApart (words_in q)
  production_apart (Leaf t) known =
      term_apart F (scope_at p.width F (p.inputs * fields_of p.kind)) (leaf_scope p is) t known.over
  production_apart (Node op ns) known =
      let below = below_by (length p.rules) ns (and_parts _ _ known.production).1 in
      call_apart p.names is.names.names op ns (subst (λ (count : ℕ). AreBelow count ns) (sym is.names.each) below)

  productions_apart : (qs : List Numbered) → AllByRecursion (IsProductionOf p) qs → EachApart words_in qs
  productions_apart [] known = tt
  productions_apart (q ∷ qs) known = (production_apart q known.0, productions_apart qs known.1)

  -- the line of a rule
  pub rule_text : (name : Word) (qs : List Numbered) → IsTrue (is_name name) → All (IsProductionOf p) qs →
      line (rule_row (named_rule p.names name qs)) ≡
      codes "rule" ++ ((32 ∷ name) ++ (each_text words_in qs ++ 10 ∷ []))
  unfolding line
  rule_text name qs called known =
      let key = word_apart (codes "rule") refl refl in
      let own = name_apart name called in
      let head = both_apart (codes "rule" ∷ []) (name ∷ []) key own in
      let each = productions_apart qs (all_items _ qs known) in
      ap (λ (ws : Words). spaced (codes "rule" ∷ name ∷ ws) ++ 10 ∷ [])
      (flat_map-map production_words (named_production p.names) qs)
      ∙ ap (λ (bs : List ℕ). bs ++ 10 ∷ []) (spaced_each words_in (codes "rule" ∷ name ∷ []) qs head each)
      ∙ ap (λ (bs : List ℕ). (bs ++ each_text words_in qs) ++ 10 ∷ [])
      (spaced_apart (codes "rule" ∷ []) (name ∷ []) key own)
      ∙ ap (λ (bs : List ℕ). codes "rule" ++ 32 ∷ bs) (append_assoc name (each_text words_in qs) (10 ∷ []))

  -- the productions of a rule are the problem's
  pub productions_known : (i : ℕ) (ps : List Numbered) → i < length p.rules →
      All (IsProductionOf p) (get_or p.rules i ps)
  productions_known i ps below k q less = record {
    production = is.grammar.productions i ps below k q less;
    over = is.leaves i ps below k q less;
  }

-- ---- rows by their places

-- this row stands at this place
pub record IsRowAt (rows : List Words) (i : ℕ) (row : Words) : Type 0 where
  pub below : i < length rows
  pub at : row ≡ get_or rows i row

module _ (names : List Word) where
  abbrev row : Word → List Numbered → Words
  row name qs = rule_row (named_rule names name qs)

  rule_at : (vs : List Word) (rules : Rules) → length vs ≡ length rules →
      (i : ℕ) (v u : Word) (qs ps : List Numbered) → i < length rules → v ≡ get_or vs i u → qs ≡ get_or rules i ps →
      IsRowAt (map rule_row (named_rules names vs rules)) i (row v qs)
  rule_at [] [] each i v u qs ps below called given = absurd (omega (arith, below))
  rule_at [] (rs ∷ rules) each i v u qs ps below called given = absurd (omega (arith, each))
  rule_at (w ∷ vs) [] each i v u qs ps below called given = absurd (omega (arith, below))
  rule_at (w ∷ vs) (rs ∷ rules) each zero v u qs ps below called given =
      record { below = omega arith; at = ap (λ (name : Word). row name qs) called ∙ ap (row w) given }
  rule_at (w ∷ vs) (rs ∷ rules) each (suc i) v u qs ps below called given =
      let later = rule_at vs rules (omega (arith, each)) i v u qs ps (omega (arith, below)) called given in
      record { below = omega (arith, later.below); at = later.at }

  -- there is a row for each rule
  pub rows_long : (vs : List Word) (rules : Rules) → length vs ≡ length rules →
      length (map rule_row (named_rules names vs rules)) ≡ length rules
  rows_long [] [] each = refl
  rows_long [] (rs ∷ rules) each = absurd (omega (arith, each))
  rows_long (w ∷ vs) [] each = absurd (omega (arith, each))
  rows_long (w ∷ vs) (rs ∷ rules) each = omega (arith, rows_long vs rules (omega (arith, each)))

-- the row of the rule at a place, of a name and productions that were taken from lists
pub row_at : (p : Problem) → IsFormed p → (names : List Word) (rules : Rules) (i : ℕ) →
    (v u : Word) (qs ps : List Numbered) → names ≡ p.names → rules ≡ p.rules → i < length rules →
    v ≡ u → u ≡ get_or names i u → qs ≡ ps → ps ≡ get_or rules i ps →
    IsRowAt (map rule_row (named p).rules) i (row p.names v qs)
row_at p is names rules i v u qs ps own_names own_rules below same_name called same_productions given =
    rule_at p.names p.names p.rules is.names.each i v u qs ps (omega (arith, ap length own_rules, below))
    (same_name ∙ called ∙ ap (λ (vs : List Word). get_or vs i u) own_names)
    (same_productions ∙ given ∙ ap (λ (rs : Rules). get_or rs i ps) own_rules)

-- ---- the whole

-- the text of a problem, in the parts that are printed one after another
pub problem_parts : (p : Problem) → problem_text p ≡
    lines (header_rows (named p).header) ++
    (lines (domain_rows (named p)) ++
    (lines (budget_rows (named p).budgets) ++
    (lines (map rule_row (named p).rules) ++
    lines ((codes "end" ∷ []) ∷ []))))
unfolding problem_text
problem_parts p =
    let header = header_rows (named p).header in
    let domain = domain_rows (named p) in
    let budgets = budget_rows (named p).budgets in
    let rules = map rule_row (named p).rules in
    let end : List Words = (codes "end" ∷ []) ∷ [] in
    flat_map-append line header (domain ++ (budgets ++ (rules ++ end)))
    ∙ ap (λ (bs : List ℕ). lines header ++ bs) (flat_map-append line domain (budgets ++ (rules ++ end))
    ∙ ap (λ (bs : List ℕ). lines domain ++ bs) (flat_map-append line budgets (rules ++ end)
    ∙ ap (λ (bs : List ℕ). lines budgets ++ bs) (flat_map-append line rules end)))
