-- Lines within the limits whose names are known are those of a problem within the limits, and the other way round.
use Rattle.std.proofs.Common.{◌≡◌, ℕ, ◌+◌, ◌*◌, ◌<◌, ◌≤◌, ◌==◌, Bool, true, false, ◌||◌, List, [], ◌∷◌, ◌++◌, length}
use Rattle.std.proofs.Common.{map, sum_by, bytes_eq, All, nat_lt, Option, Some, None, ap, subst, refl, sym, ◌∙◌, arith}
use Rattle.std.specs.List.{AllByRecursion, IsDistinct, list_all}
use Rattle.std.specs.Prelude.{IfSome, IsTrue}
use Rattle.std.proofs.lemmas.Bool.{and_from, and_parts, eq-eqb, eqb-true, lt-ltb}
use Rattle.std.proofs.lemmas.List.{length-map}
use Rattle.std.proofs.lemmas.List.Sums.{sum_by-cons}
use Rattle.std.proofs.lemmas.Map.Made.{AllPairs-from_IsDistinct, IsDistinct-from_AllPairs}
use Rattle.std.proofs.lemmas.Slice.Eq.{bytes_eq-Decides}
use Rattle.am_bv.specs.Operators.{arity}
use Rattle.am_bv.specs.Terms.{fits, nodes}
use Rattle.am_bv.specs.declared.term.Term.{Term}
use Rattle.am_syntax.specs.Numerals.{is_name}
use Rattle.am_syntax.specs.Readers.{Word}
use Rattle.am_syntax.specs.Spelling.{IsTermWithin, Scope}
use Rattle.am_syntax.specs.declared.limits.Letter.{Letter}
use Rattle.am_syntax.specs.declared.limits.Letter.TheVariants.{X, F}
use Rattle.am_bv.proofs.Laws.{fits-arities}
use Rattle.am_tree.specs.Grammars.{is_production}
use Rattle.am_tree.proofs.Laws.{leaf-small, small-leaf}
use Rattle.am_tree.specs.Trees.{Rules}
use Rattle.am_tree.specs.declared.grammar.Production.{Production as Numbered}
use Rattle.am_tree.specs.declared.grammar.Production.TheVariants.{Leaf, Node}
use Rattle.am_problem.specs.Grammar.{has_name, names_of, productions_of_rules, scope_at}
use Rattle.am_problem.specs.Kinds.{fields_of}
use Rattle.am_problem.specs.Limits.{IsFormed, IsLeafOver, IsOperation}
use Rattle.am_problem.specs.Lines.{Lines, Production, Rule, leaf, node}
use Rattle.am_problem.specs.Problem.{Problem}
use Rattle.am_problem.specs.Texts.{name_at, named, named_production, named_rules, number_in, numbered}
use Rattle.am_problem.specs.Texts.{numbered_production, numbered_rules}
use Rattle.am_problem.specs.lemmas.KindLaws.{laws_of}
use Rattle.am_problem.specs.LineLimits.{AreNonterminals, IsLines, IsProduction, IsRule, OnceEach}
use Rattle.am_problem.proofs.Lists.{all_items, all_places}
use Rattle.am_problem.proofs.Nesting.{nesting_few}
use Rattle.am_problem.proofs.Named.{names_again, AreBelow, AreKnown, AreKnownAmong, AreKnownIn, AreProductions, IsKnown}
use Rattle.am_problem.proofs.Named.{below_by, number_below, productions_of, starts_of}

-- ---- names apart

-- the test of a set of words
abbrev pub is_same : Word → Word → Bool
is_same x y = bytes_eq y x

-- this test decides whether words are equal
pub same_decides : (x y : Word) → ((is_same x y ≡ true → x ≡ y) × (x ≡ y → is_same x y ≡ true))
same_decides x y = (λ h. sym ((bytes_eq-Decides y x).0 h), λ h. (bytes_eq-Decides y x).1 (sym h))

or_parts : (a b : Bool) → (a || b) ≡ false → (a ≡ false) × (b ≡ false)
or_parts true b h = absurd cc
or_parts false b h = (refl, h)

or_from : (a b : Bool) → a ≡ false → b ≡ false → (a || b) ≡ false
or_from true b h k = absurd cc
or_from false b h k = k

-- none of these rules has a name that was seen
abbrev AreNew : List Word → List Rule → Type 0
AreNew seen rs = AllByRecursion (λ (r : Rule). has_name seen r.name ≡ false) rs

names_more : (seen : List Rule) (r : Rule) → names_of (seen ++ r ∷ []) ≡ names_of seen ++ r.name ∷ []
names_more [] r = refl
names_more (s ∷ seen) r = ap (λ (vs : List Word). s.name ∷ vs) (names_more seen r)

has_more : (seen : List Word) (n v : Word) → has_name (seen ++ n ∷ []) v ≡ (has_name seen v || bytes_eq v n)
has_more [] n v = at (bytes_eq v n)
  where
    at : (b : Bool) → (b || false) ≡ b
    at true = refl
    at false = refl
has_more (s ∷ seen) n v =
    ap (λ b. bytes_eq v s || b) (has_more seen n v) ∙ again (bytes_eq v s) (has_name seen v) (bytes_eq v n)
  where
    again : (a b c : Bool) → (a || (b || c)) ≡ ((a || b) || c)
    again true b c = refl
    again false b c = refl

split_new : (seen : List Word) (n : Word) (rs : List Rule) → AreNew (seen ++ n ∷ []) rs →
    AreNew seen rs × AllByRecursion (λ y. is_same n y ≡ false) (names_of rs)
split_new seen n [] h = (tt, tt)
split_new seen n (r ∷ rs) h =
    let k = or_parts (has_name seen r.name) (bytes_eq r.name n) (sym (has_more seen n r.name) ∙ h.0) in
    let others = split_new seen n rs h.1 in
    ((k.0, others.0), (k.1, others.1))

join_new : (seen : List Word) (n : Word) (rs : List Rule) → AreNew seen rs →
    AllByRecursion (λ y. is_same n y ≡ false) (names_of rs) →
    AreNew (seen ++ n ∷ []) rs
join_new seen n [] h k = tt
join_new seen n (r ∷ rs) h k =
    (has_more seen n r.name ∙ or_from (has_name seen r.name) (bytes_eq r.name n) h.0 k.0, join_new seen n rs h.1 k.1)

once_distinct : (seen rs : List Rule) → OnceEach seen rs → AreNew (names_of seen) rs × IsDistinct is_same (names_of rs)
unfolding IsDistinct
once_distinct seen [] h = (tt, tt)
once_distinct seen (r ∷ rs) h =
    let others = once_distinct (seen ++ r ∷ []) rs h.1 in
    let split =
    split_new (names_of seen) r.name rs (subst (λ (vs : List Word). AreNew vs rs) (names_more seen r) others.0) in
    ((h.0, split.0), (split.1, others.1))

distinct_once : (seen rs : List Rule) → AreNew (names_of seen) rs → IsDistinct is_same (names_of rs) → OnceEach seen rs
unfolding IsDistinct
distinct_once seen [] h k = tt
distinct_once seen (r ∷ rs) h k = (
  h.0,
  distinct_once (seen ++ r ∷ []) rs
      (subst (λ (vs : List Word). AreNew vs rs) (sym (names_more seen r))
      (join_new (names_of seen) r.name rs h.1 k.0))
      k.1,
)

all_new : (rs : List Rule) → AreNew [] rs
all_new [] = tt
all_new (r ∷ rs) = (refl, all_new rs)

-- ---- from lines

module _ (scope : Scope) (names : List Word) (count : ℕ) (each : length names ≡ count) where
  numbers_in : (vs : List Word) → AllByRecursion (IsKnown names) vs →
      list_all (λ n. nat_lt n count) (map (number_in names) vs) ≡ true
  numbers_in [] h = refl
  numbers_in (v ∷ vs) h =
      and_from _ _ (lt-ltb (number_in names v) count (omega (arith, number_below names v h.0, each)))
      (numbers_in vs h.1)

  production_in : (p : Production) → IsProduction scope p → AreKnownIn names p →
      IsTrue (is_production count (numbered_production names p))
  production_in (leaf t) is known = small-leaf count t is.few (fits-arities scope.width scope.variables t is.fit)
  production_in (node op args) is known =
      and_from _ _ (ap (λ n. n == arity op) (length-map args (number_in names) ∙ is.0) ∙ same (arity op))
      (numbers_in args known)
    where
      same : (n : ℕ) → (n == n) ≡ true
      same n = eq-eqb n n refl

  productions_in : (ps : List Production) → AllByRecursion (IsProduction scope) ps →
      AllByRecursion (AreKnownIn names) ps →
      All (λ p. IsTrue (is_production count p)) (map (numbered_production names) ps)
  productions_in ps is known = all_places _ _ (at ps is known)
    where
      at : (ps : List Production) → AllByRecursion (IsProduction scope) ps → AllByRecursion (AreKnownIn names) ps →
          AreProductions count (map (numbered_production names) ps)
      at [] is known = tt
      at (p ∷ ps) is known = (production_in p is.0 known.0, at ps is.1 known.1)

  leaves_in : (ps : List Production) → AllByRecursion (IsProduction scope) ps →
      All (IsLeafOver scope.width scope.variables) (map (numbered_production names) ps)
  leaves_in ps is = all_places _ _ (at ps is)
    where
      at : (ps : List Production) → AllByRecursion (IsProduction scope) ps →
          AllByRecursion (IsLeafOver scope.width scope.variables) (map (numbered_production names) ps)
      at [] is = tt
      at (leaf t ∷ ps) is = (is.0.fit, at ps is.1)
      at (node op args ∷ ps) is = (tt, at ps is.1)

  rules_in : (rs : List Rule) → AllByRecursion (IsRule scope) rs → AllByRecursion (AreKnownAmong names) rs →
      All (All (λ p. IsTrue (is_production count p))) (numbered_rules names rs)
  rules_in rs is known = all_places _ _ (at rs is known)
    where
      at : (rs : List Rule) → AllByRecursion (IsRule scope) rs → AllByRecursion (AreKnownAmong names) rs →
          AllByRecursion (All (λ p. IsTrue (is_production count p))) (numbered_rules names rs)
      at [] is known = tt
      at (r ∷ rs) is known = (productions_in r.productions is.0.productions known.0, at rs is.1 known.1)

  all_leaves_in : (rs : List Rule) → AllByRecursion (IsRule scope) rs →
      All (All (IsLeafOver scope.width scope.variables)) (numbered_rules names rs)
  all_leaves_in rs is = all_places _ _ (at rs is)
    where
      at : (rs : List Rule) → AllByRecursion (IsRule scope) rs →
          AllByRecursion (All (IsLeafOver scope.width scope.variables)) (numbered_rules names rs)
      at [] is = tt
      at (r ∷ rs) is = (leaves_in r.productions is.0.productions, at rs is.1)

  starts_in : (vs : List Word) → AllByRecursion (IsKnown names) vs → AreBelow count (map (number_in names) vs)
  starts_in [] h = tt
  starts_in (v ∷ vs) h = (omega (arith, number_below names v h.0, each), starts_in vs h.1)

made_numbered : (names : List Word) (rs : List Rule) → sum_by length (numbered_rules names rs) ≡ productions_of_rules rs
made_numbered names [] = refl
made_numbered names (r ∷ rs) =
    sum_by-cons length (map (numbered_production names) r.productions) (numbered_rules names rs)
    ∙ ap (λ n. n + sum_by length (numbered_rules names rs)) (length-map r.productions (numbered_production names))
    ∙ ap (λ n. length r.productions + n) (made_numbered names rs)
    ∙ sym (sum_by-cons (λ (r : Rule). length r.productions) r rs)

rule_names : (scope : Scope) (rs : List Rule) → AllByRecursion (IsRule scope) rs →
    AllByRecursion (λ v. IsTrue (is_name v)) (names_of rs)
rule_names scope [] h = tt
rule_names scope (r ∷ rs) h = (h.0.name, rule_names scope rs h.1)

assumed : (w n : ℕ) (o : Option Term) → IfSome o (IsTermWithin (scope_at w X n) 64 64) → IfSome o (IsOperation w n)
assumed w n None h = tt
assumed w n (Some t) h = record { fit = h.fit; small = h.few }

-- lines within the limits, whose names have rules, are those of a problem within the limits of its parts
pub formed_of : (l : Lines) → IsLines l → AreKnown (names_of l.rules) l → IsFormed (numbered l)
formed_of l is known =
    let names = names_of l.rules in
    let scope = scope_at l.header.width F (l.header.inputs * fields_of l.kind) in
    let count = length (numbered_rules names l.rules) in
    let many : count ≡ length l.rules = length-map l.rules _ in
    let called : length names ≡ length l.rules = length-map l.rules _ in
    let each : length names ≡ count = called ∙ sym many in
    let fields = (laws_of l.kind).few_fields in
    record {
      width = is.width;
      some_input = is.inputs.0;
      few_inputs = is.inputs.1;
      operation = record { fit = is.operation.fit; small = is.operation.few };
      assume = assumed l.header.width l.header.inputs l.header.assume is.assume;
      grammar = record {
        productions = rules_in scope names count each l.rules is.rules.each known.rules;
        starts_in = all_places _ _ (starts_in scope names count each l.starts known.starts);
        few_rules = omega (arith, many, is.rules.few);
        few_productions = omega (arith, made_numbered names l.rules, is.rules.few_productions);
        few_starts = omega (arith, length-map l.starts (number_in names), is.start_per_field, fields);
        some_depth = is.depth.0;
        most_depth = is.depth.1;
      };
      leaves = all_leaves_in scope names count each l.rules is.rules.each;
      names = record {
        each = each;
        names = all_places _ _ (rule_names scope l.rules is.rules.each);
        once = AllPairs-from_IsDistinct same_decides names (once_distinct [] l.rules is.rules.once).1;
      };
      start_per_field = length-map l.starts (number_in names) ∙ is.start_per_field;
      turns = is.turns;
      some_conflicts = is.conflicts.0;
      few_conflicts = is.conflicts.1;
    }

-- ---- from a problem

name_is : (names : List Word) → All (λ v. IsTrue (is_name v)) names → (n : ℕ) → n < length names →
    IsTrue (is_name (name_at names n))
name_is names all n below = all n [] below

names_are : (names : List Word) → All (λ v. IsTrue (is_name v)) names → (ns : List ℕ) → AreBelow (length names) ns →
    AreNonterminals (map (name_at names) ns)
names_are names all [] h = tt
names_are names all (n ∷ ns) h = (name_is names all n h.0, names_are names all ns h.1)

made_named : (names vs : List Word) (rules : Rules) → length vs ≡ length rules →
    productions_of_rules (named_rules names vs rules) ≡ sum_by length rules
made_named names [] [] each = refl
made_named names [] (ps ∷ rules) each = absurd (omega (arith, each))
made_named names (v ∷ vs) [] each = absurd (omega (arith, each))
made_named names (v ∷ vs) (ps ∷ rules) each =
    sum_by-cons (λ (r : Rule). length r.productions)
    (record { name = v; productions = map (named_production names) ps }) (named_rules names vs rules)
    ∙ ap (λ n. n + productions_of_rules (named_rules names vs rules)) (length-map ps (named_production names))
    ∙ ap (λ n. length ps + n) (made_named names vs rules (omega (arith, each)))
    ∙ sym (sum_by-cons length ps rules)

long_named : (names vs : List Word) (rules : Rules) → length vs ≡ length rules →
    length (named_rules names vs rules) ≡ length rules
long_named names [] [] each = refl
long_named names [] (ps ∷ rules) each = absurd (omega (arith, each))
long_named names (v ∷ vs) [] each = absurd (omega (arith, each))
long_named names (v ∷ vs) (ps ∷ rules) each = omega (arith, long_named names vs rules (omega (arith, each)))

within : (w n most : ℕ) (letter : Letter) (t : Term) → IsTrue (fits w n t) → nodes t ≤ most →
    IsTermWithin (scope_at w letter n) most most t
within w n most letter t fit few = record { fit = fit; few = few; flat = omega (arith, nesting_few t, few) }

module _ (scope : Scope) (names : List Word) (all : All (λ v. IsTrue (is_name v)) names) where
  production_is : (p : Numbered) → IsTrue (is_production (length names) p) → IsLeafOver scope.width scope.variables p →
      IsProduction scope (named_production names p)
  production_is (Leaf t) is over =
      let few : nodes t ≤ 64 = leaf-small (length names) t is in
      record { fit = over; few = few; flat = omega (arith, nesting_few t, few) }
  production_is (Node op ns) is over = (
    length-map ns (name_at names) ∙ eqb-true (length ns) (arity op) (and_parts _ _ is).0,
    names_are names all ns (below_by (length names) ns (and_parts _ _ is).1),
  )

  productions_are : (ps : List Numbered) → AreProductions (length names) ps →
      AllByRecursion (IsLeafOver scope.width scope.variables) ps →
      AllByRecursion (IsProduction scope) (map (named_production names) ps)
  productions_are [] is over = tt
  productions_are (p ∷ ps) is over = (production_is p is.0 over.0, productions_are ps is.1 over.1)

  rules_are : (vs : List Word) (rules : Rules) → AllByRecursion (λ v. IsTrue (is_name v)) vs →
      AllByRecursion (AreProductions (length names)) rules →
      AllByRecursion (All (IsLeafOver scope.width scope.variables)) rules →
      AllByRecursion (IsRule scope) (named_rules names vs rules)
  rules_are [] rules called is over = tt
  rules_are (v ∷ vs) [] called is over = tt
  rules_are (v ∷ vs) (ps ∷ rules) called is over = (
    record { name = called.0; productions = productions_are ps is.0 (all_items _ ps over.0) },
    rules_are vs rules called.1 is.1 over.1,
  )

assumed_back : (w n : ℕ) (o : Option Term) → IfSome o (IsOperation w n) → IfSome o (IsTermWithin (scope_at w X n) 64 64)
assumed_back w n None h = tt
assumed_back w n (Some t) h = within w n 64 X t h.fit h.small

-- the lines of a problem within the limits of its parts are within theirs
pub lines_of_formed : (p : Problem) → IsFormed p → IsLines (named p)
lines_of_formed p is =
    let scope = scope_at p.width F (p.inputs * fields_of p.kind) in
    let rs = named_rules p.names p.names p.rules in
    let again = names_again p.names p.names p.rules is.names.each in
    record {
      width = is.width;
      inputs = (is.some_input, is.few_inputs);
      operation = within p.width p.inputs 64 X p.operation is.operation.fit is.operation.small;
      assume = assumed_back p.width p.inputs p.assume is.assume;
      start_per_field = length-map p.starts (name_at p.names) ∙ is.start_per_field;
      starts = names_are p.names is.names.names p.starts (starts_of p is);
      depth = (is.grammar.some_depth, is.grammar.most_depth);
      turns = is.turns;
      conflicts = (is.some_conflicts, is.few_conflicts);
      rules = record {
        each =
            rules_are scope p.names is.names.names p.names p.rules (all_items _ p.names is.names.names)
            (productions_of p is) (all_items _ p.rules is.leaves);
        once =
            distinct_once [] rs (all_new rs)
            (subst (IsDistinct is_same) (sym again) (IsDistinct-from_AllPairs same_decides p.names is.names.once));
        few = omega (arith, long_named p.names p.names p.rules is.names.each, is.grammar.few_rules);
        few_productions = omega (arith, made_named p.names p.names p.rules is.names.each, is.grammar.few_productions);
      };
    }
