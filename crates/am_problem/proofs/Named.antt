-- Nonterminals by their numbers and by their names: each way undoes the other.
use Rattle.std.proofs.Common.{◌≡◌, ◌≢◌, ℕ, suc, ◌+◌, ◌<◌, Bool, true, false, cond, not, ◌||◌, List, [], ◌∷◌, length}
use Rattle.std.proofs.Common.{map, bytes_eq, All, ap, subst, refl, sym, ◌∙◌, arith}
use Rattle.std.specs.List.{AllByRecursion}
use Rattle.std.specs.Prelude.{IsTrue}
use Rattle.am_tree.specs.Trees.{Rules}
use Rattle.am_tree.specs.declared.grammar.Production.{Production as Numbered}
use Rattle.am_tree.specs.declared.grammar.Production.TheVariants.{Leaf, Node}
use Rattle.am_syntax.proofs.Laws.{bytes_eq-same, same_bytes}
use Rattle.am_syntax.specs.Readers.{Word}
use Rattle.am_problem.specs.Grammar.{has_name, names_of}
use Rattle.am_problem.specs.Lines.{Lines, Production, Rule, leaf, node}
use Rattle.am_problem.specs.Problem.{Problem}
use Rattle.am_problem.specs.Texts.{name_at, named, named_production, named_rules, number_in, numbered}
use Rattle.am_problem.specs.Texts.{numbered_production, numbered_rules}
use Rattle.std.proofs.lemmas.List.Folds.{list_any_at}
use Rattle.std.proofs.lemmas.List.Sums.{position_or_len_is}
use Rattle.std.proofs.lemmas.Bool.{and_parts, ltb-true}
use Rattle.std.specs.List.{list_all}
use Rattle.std.specs.Prelude.{nat_lt}
use Rattle.am_tree.specs.Grammars.{is_production}
use Rattle.am_problem.specs.Limits.{AreApart, IsFormed}
use Rattle.am_problem.proofs.Lists.{all_items}
use Rattle.am_problem.proofs.Undefined.{missing, missing_among, missing_in, missing_lines, missing_rule, missing_rules}

-- ---- names that rules have

-- a name is one of these
abbrev pub IsKnown : List Word → Word → Type 0
IsKnown names v = has_name names v ≡ true

-- each nonterminal of a production is one of these names
abbrev pub AreKnownIn : List Word → Production → Type 0
AreKnownIn names (leaf t) = Unit {0}
AreKnownIn names (node op args) = AllByRecursion (IsKnown names) args

-- each nonterminal in the productions of a rule is one of these names
abbrev pub AreKnownAmong : List Word → Rule → Type 0
AreKnownAmong names r = AllByRecursion (AreKnownIn names) r.productions

-- each name that lines use is a rule's
pub record AreKnown (names : List Word) (l : Lines) : Type 0 where
  pub starts : AllByRecursion (IsKnown names) l.starts
  pub rules : AllByRecursion (AreKnownAmong names) l.rules

or_parts : (a b : Bool) → (a || b) ≡ false → (a ≡ false) × (b ≡ false)
or_parts true b h = absurd cc
or_parts false b h = (refl, h)

not_false : (b : Bool) → not b ≡ false → b ≡ true
not_false true h = refl
not_false false h = absurd cc

known_by : (names vs : List Word) → missing names vs ≡ false → AllByRecursion (IsKnown names) vs
known_by names [] h = tt
known_by names (v ∷ vs) h =
    let k = or_parts (not (has_name names v)) (missing names vs) h in
    (not_false (has_name names v) k.0, known_by names vs k.1)

known_in : (names : List Word) (p : Production) → missing_in names p ≡ false → AreKnownIn names p
known_in names (leaf t) h = tt
known_in names (node op args) h = known_by names args h

known_among : (names : List Word) (ps : List Production) → missing_among names ps ≡ false →
    AllByRecursion (AreKnownIn names) ps
known_among names [] h = tt
known_among names (p ∷ ps) h =
    let k = or_parts (missing_in names p) (missing_among names ps) h in
    (known_in names p k.0, known_among names ps k.1)

known_rules : (names : List Word) (rs : List Rule) → missing_rules names rs ≡ false →
    AllByRecursion (AreKnownAmong names) rs
known_rules names [] h = tt
known_rules names (r ∷ rs) h =
    let k = or_parts (missing_rule names r) (missing_rules names rs) h in (
      known_among names r.productions
          (or_parts (not (has_name names r.name)) (missing_among names r.productions) k.0).1,
      known_rules names rs k.1,
    )

-- lines of which no name is missing use names of rules alone
pub known_lines : (names : List Word) (l : Lines) → missing_lines names l ≡ false → AreKnown names l
known_lines names l h =
    let k = or_parts (missing names l.starts) (missing_rules names l.rules) h in
    record { starts = known_by names l.starts k.0; rules = known_rules names l.rules k.1 }

none_missing : (names vs : List Word) → AllByRecursion (IsKnown names) vs → missing names vs ≡ false
none_missing names [] h = refl
none_missing names (v ∷ vs) h = ap (λ b. not b || missing names vs) h.0 ∙ none_missing names vs h.1

none_in : (names : List Word) (p : Production) → AreKnownIn names p → missing_in names p ≡ false
none_in names (leaf t) h = refl
none_in names (node op args) h = none_missing names args h

none_among : (names : List Word) (ps : List Production) → AllByRecursion (AreKnownIn names) ps →
    missing_among names ps ≡ false
none_among names [] h = refl
none_among names (p ∷ ps) h = ap (λ b. b || missing_among names ps) (none_in names p h.0) ∙ none_among names ps h.1

none_rules : (names : List Word) (rs : List Rule) → AllByRecursion (λ (r : Rule). IsKnown names r.name) rs →
    AllByRecursion (AreKnownAmong names) rs →
    missing_rules names rs ≡ false
none_rules names [] own h = refl
none_rules names (r ∷ rs) own h =
    ap (λ b. (not b || missing_among names r.productions) || missing_rules names rs) own.0
    ∙ ap (λ b. b || missing_rules names rs) (none_among names r.productions h.0)
    ∙ none_rules names rs own.1 h.1

or_right : (a b : Bool) → b ≡ true → (a || b) ≡ true
or_right true b h = refl
or_right false b h = h

own_more : (n : Word) (names : List Word) (rs : List Rule) → AllByRecursion (λ (r : Rule). IsKnown names r.name) rs →
    AllByRecursion (λ (r : Rule). IsKnown (n ∷ names) r.name) rs
own_more n names [] h = tt
own_more n names (r ∷ rs) h = (or_right (bytes_eq r.name n) (has_name names r.name) h.0, own_more n names rs h.1)

-- a rule has its own name
own_names : (rs : List Rule) → AllByRecursion (λ (r : Rule). IsKnown (names_of rs) r.name) rs
own_names [] = tt
own_names (r ∷ rs) = (
  ap (λ b. b || has_name (names_of rs) r.name) (bytes_eq-same r.name),
  own_more r.name (names_of rs) rs (own_names rs),
)

-- of lines that use names of rules alone no name is missing
pub none_missing_lines : (l : Lines) → AreKnown (names_of l.rules) l → missing_lines (names_of l.rules) l ≡ false
none_missing_lines l h =
    ap (λ b. b || missing_rules (names_of l.rules) l.rules) (none_missing (names_of l.rules) l.starts h.starts)
    ∙ none_rules (names_of l.rules) l.rules (own_names l.rules) h.rules

-- ---- the name of a name's number

one_more : (n : ℕ) → 1 + n ≡ suc n
one_more n = omega arith

place_step : (v n : Word) (names : List Word) (b : Bool) → bytes_eq v n ≡ b →
    (has_name names v ≡ true → name_at names (number_in names v) ≡ v) → (b || has_name names v) ≡ true →
    name_at (n ∷ names) (cond (not b) (1 + number_in names v) 0) ≡ v
place_step v n names true e next h = sym (same_bytes v n e)
place_step v n names false e next h = ap (name_at (n ∷ names)) (one_more (number_in names v)) ∙ next h

pub name_of_number : (names : List Word) (v : Word) → IsKnown names v → name_at names (number_in names v) ≡ v
name_of_number [] v h = absurd cc
name_of_number (n ∷ names) v h = place_step v n names (bytes_eq v n) refl (name_of_number names v) h

below_step : (v n : Word) (names : List Word) (b : Bool) →
    (has_name names v ≡ true → number_in names v < length names) → (b || has_name names v) ≡ true →
    cond (not b) (1 + number_in names v) 0 < length (n ∷ names)
below_step v n names true next h = omega arith
below_step v n names false next h = omega (arith, next h)

-- the number of a known name is below the number of names
pub number_below : (names : List Word) (v : Word) → IsKnown names v → number_in names v < length names
number_below [] v h = absurd cc
number_below (n ∷ names) v h = below_step v n names (bytes_eq v n) (number_below names v) h

names_back : (names vs : List Word) → AllByRecursion (IsKnown names) vs →
    map (name_at names) (map (number_in names) vs) ≡ vs
names_back names [] h = refl
names_back names (v ∷ vs) h =
    ap (λ (u : Word). u ∷ map (name_at names) (map (number_in names) vs)) (name_of_number names v h.0)
    ∙ ap (λ (us : List Word). v ∷ us) (names_back names vs h.1)

production_back : (names : List Word) (p : Production) → AreKnownIn names p →
    named_production names (numbered_production names p) ≡ p
production_back names (leaf t) h = refl
production_back names (node op args) h = ap (node op) (names_back names args h)

productions_back : (names : List Word) (ps : List Production) → AllByRecursion (AreKnownIn names) ps →
    map (named_production names) (map (numbered_production names) ps) ≡ ps
productions_back names [] h = refl
productions_back names (p ∷ ps) h =
    ap (λ (q : Production). q ∷ map (named_production names) (map (numbered_production names) ps))
    (production_back names p h.0)
    ∙ ap (λ (qs : List Production). p ∷ qs) (productions_back names ps h.1)

rules_back : (names : List Word) (rs : List Rule) → AllByRecursion (AreKnownAmong names) rs →
    named_rules names (names_of rs) (numbered_rules names rs) ≡ rs
rules_back names [] h = refl
rules_back names (r ∷ rs) h =
    ap
    (λ (ps : List Production). (let q : Rule = record { name = r.name; productions = ps } in q)
    ∷ named_rules names (names_of rs) (numbered_rules names rs))
    (productions_back names r.productions h.0)
    ∙ ap (λ (qs : List Rule). r ∷ qs) (rules_back names rs h.1)

-- the lines of the problem of lines
pub lines_again : (l : Lines) → AreKnown (names_of l.rules) l → named (numbered l) ≡ l
lines_again l h =
    let again : List Word → List Rule → Lines =
    λ starts rules. record { header = l.header; kind = l.kind; starts = starts; budgets = l.budgets; rules = rules } in
    let names = names_of l.rules in
    ap (λ (starts : List Word). again starts (named_rules names names (numbered_rules names l.rules)))
    (names_back names l.starts h.starts)
    ∙ ap (again l.starts) (rules_back names l.rules h.rules)

-- ---- the number of a number's name

apart_eq : (u v : Word) → u ≢ v → (b : Bool) → bytes_eq u v ≡ b → b ≡ false
apart_eq u v apart false e = refl
apart_eq u v apart true e = absurd (apart (same_bytes u v e))

number_of_name : (names : List Word) → AreApart names → (n : ℕ) → n < length names →
    number_in names (name_at names n) ≡ n
number_of_name names apart n below =
    position_or_len_is (bytes_eq (name_at names n)) names n [] (omega (arith, below))
    (λ k less. apart_eq (name_at names n) (name_at names k) (λ e. apart k n [] less below (sym e))
    (bytes_eq (name_at names n) (name_at names k)) refl)
    (λ _. bytes_eq-same (name_at names n))

pub name_known : (names : List Word) (n : ℕ) → n < length names → IsKnown names (name_at names n)
name_known names n below = list_any_at (bytes_eq (name_at names n)) names n [] below (bytes_eq-same (name_at names n))

-- each of these numbers is below the count
abbrev pub AreBelow : ℕ → List ℕ → Type 0
AreBelow count ns = AllByRecursion (λ n. n < count) ns

pub names_known : (names : List Word) (ns : List ℕ) → AreBelow (length names) ns →
    AllByRecursion (IsKnown names) (map (name_at names) ns)
names_known names [] h = tt
names_known names (n ∷ ns) h = (name_known names n h.0, names_known names ns h.1)

numbers_back : (names : List Word) → AreApart names → (ns : List ℕ) → AreBelow (length names) ns →
    map (number_in names) (map (name_at names) ns) ≡ ns
numbers_back names apart [] h = refl
numbers_back names apart (n ∷ ns) h =
    ap (λ (m : ℕ). m ∷ map (number_in names) (map (name_at names) ns)) (number_of_name names apart n h.0)
    ∙ ap (λ (ms : List ℕ). n ∷ ms) (numbers_back names apart ns h.1)

-- numbers that pass the test of a production are below the count
pub below_by : (count : ℕ) (ns : List ℕ) → list_all (λ n. nat_lt n count) ns ≡ true → AreBelow count ns
below_by count [] h = tt
below_by count (n ∷ ns) h = (ltb-true _ _ (and_parts _ _ h).0, below_by count ns (and_parts _ _ h).1)

-- each of these productions is of the nonterminals below the count
abbrev pub AreProductions : ℕ → List Numbered → Type 0
AreProductions count ps = AllByRecursion (λ p. IsTrue (is_production count p)) ps

numbered_back : (names : List Word) → AreApart names → (p : Numbered) → IsTrue (is_production (length names) p) →
    numbered_production names (named_production names p) ≡ p
numbered_back names apart (Leaf t) is = refl
numbered_back names apart (Node op ns) is =
    ap (Node op) (numbers_back names apart ns (below_by (length names) ns (and_parts _ _ is).1))

all_back : (names : List Word) → AreApart names → (ps : List Numbered) → AreProductions (length names) ps →
    map (numbered_production names) (map (named_production names) ps) ≡ ps
all_back names apart [] h = refl
all_back names apart (p ∷ ps) h =
    ap (λ (q : Numbered). q ∷ map (numbered_production names) (map (named_production names) ps))
    (numbered_back names apart p h.0)
    ∙ ap (λ (qs : List Numbered). p ∷ qs) (all_back names apart ps h.1)

rules_again : (names : List Word) → AreApart names → (vs : List Word) (rules : Rules) → length vs ≡ length rules →
    AllByRecursion (AreProductions (length names)) rules → numbered_rules names (named_rules names vs rules) ≡ rules
rules_again names apart [] [] each h = refl
rules_again names apart [] (ps ∷ rules) each h = absurd (omega (arith, each))
rules_again names apart (v ∷ vs) [] each h = absurd (omega (arith, each))
rules_again names apart (v ∷ vs) (ps ∷ rules) each h =
    ap (λ (qs : List Numbered). qs ∷ numbered_rules names (named_rules names vs rules)) (all_back names apart ps h.0)
    ∙ ap (λ (qs : Rules). ps ∷ qs) (rules_again names apart vs rules (omega (arith, each)) h.1)

-- the names of the named rules are those that they were given
pub names_again : (names vs : List Word) (rules : Rules) → length vs ≡ length rules →
    names_of (named_rules names vs rules) ≡ vs
names_again names [] rules each = refl
names_again names (v ∷ vs) [] each = absurd (omega (arith, each))
names_again names (v ∷ vs) (ps ∷ rules) each =
    ap (λ (us : List Word). v ∷ us) (names_again names vs rules (omega (arith, each)))

-- the productions of a problem are of its nonterminals
pub productions_of : (p : Problem) → IsFormed p → AllByRecursion (AreProductions (length p.names)) p.rules
productions_of p is =
    subst (λ (count : ℕ). AllByRecursion (AreProductions count) p.rules) (sym is.names.each)
    (at p.rules (all_items _ p.rules is.grammar.productions))
  where
    at : (rules : Rules) → AllByRecursion (λ ps. All (λ q. IsTrue (is_production (length p.rules) q)) ps) rules →
        AllByRecursion (AreProductions (length p.rules)) rules
    at [] h = tt
    at (ps ∷ rules) h = (all_items _ ps h.0, at rules h.1)

-- the starts of a problem are its nonterminals
pub starts_of : (p : Problem) → IsFormed p → AreBelow (length p.names) p.starts
starts_of p is =
    subst (λ (count : ℕ). AreBelow count p.starts) (sym is.names.each) (all_items _ p.starts is.grammar.starts_in)

-- the problem of the lines of a problem
pub problem_again : (p : Problem) → IsFormed p → numbered (named p) ≡ p
problem_again p is =
    let again : List Word → Rules → List ℕ → Problem = λ names rules starts. record {
      width = p.width;
      inputs = p.inputs;
      operation = p.operation;
      assume = p.assume;
      kind = p.kind;
      names = names;
      rules = rules;
      starts = starts;
      depth = p.depth;
      turns = p.turns;
      conflicts = p.conflicts;
    } in
    let lines = named_rules p.names p.names p.rules in
    let starts = map (name_at p.names) p.starts in
    ap (λ (names : List Word). again names (numbered_rules names lines) (map (number_in names) starts))
    (names_again p.names p.names p.rules is.names.each)
    ∙ ap (λ (rules : Rules). again p.names rules (map (number_in p.names) starts))
    (rules_again p.names is.names.once p.names p.rules is.names.each (productions_of p is))
    ∙ ap (again p.names p.rules) (numbers_back p.names is.names.once p.starts (starts_of p is))

known_again : (names : List Word) (vs : List Word) (rules : Rules) →
    AllByRecursion (AreProductions (length names)) rules →
    AllByRecursion (AreKnownAmong names) (named_rules names vs rules)
known_again names [] rules h = tt
known_again names (v ∷ vs) [] h = tt
known_again names (v ∷ vs) (ps ∷ rules) h = (each ps h.0, known_again names vs rules h.1)
  where
    each : (ps : List Numbered) → AreProductions (length names) ps →
        AllByRecursion (AreKnownIn names) (map (named_production names) ps)
    each [] h = tt
    each (Leaf t ∷ ps) h = (tt, each ps h.1)
    each (Node op ns ∷ ps) h = (names_known names ns (below_by (length names) ns (and_parts _ _ h.0).1), each ps h.1)

-- the names of a problem's lines are its rules'
pub known_named : (p : Problem) → IsFormed p → AreKnown (names_of (named p).rules) (named p)
known_named p is =
    subst (λ (names : List Word). AreKnown names (named p)) (sym (names_again p.names p.names p.rules is.names.each))
    (record {
      starts = names_known p.names p.starts (starts_of p is);
      rules = known_again p.names p.names p.rules (productions_of p is);
    })
