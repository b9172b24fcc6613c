-- The lines of a problem within the limits use no name without a rule.
use Rattle.std.proofs.Common.{◌≡◌, ℕ, suc, ◌+◌, ◌<◌, Bool, true, false, cond, not, ◌||◌, List, [], ◌∷◌, length, map}
use Rattle.std.proofs.Common.{bytes_eq, All, ◌≤◌, arith, refl, subst, sym}
use Rattle.std.specs.List.{AllByRecursion, list_all}
use Rattle.std.specs.Prelude.{IsTrue, nat_lt}
use Rattle.std.proofs.lemmas.Bool.{and_parts, ltb-true}
use Rattle.am_syntax.specs.Readers.{Word}
use Rattle.am_tree.specs.Grammars.{is_production}
use Rattle.am_problem.specs.Grammar.{has_name, names_of}
use Rattle.am_problem.specs.Limits.{IsFormed}
use Rattle.am_problem.specs.Lines.{Lines, Production, Rule, leaf, node}
use Rattle.am_problem.specs.Texts.{number_in, numbered, numbered_production, numbered_rules}
use Rattle.am_problem.specs.inside.Names.{IsNameOf, IsProductionOver, IsRuleOver}
use Rattle.am_problem.proofs.Lists.{all_items, all_places}

known_step : (v : Word) (names : List Word) (b : Bool) → (number_in names v < length names → has_name names v ≡ true) →
    cond (not b) (1 + number_in names v) 0 < suc (length names) → (b || has_name names v) ≡ true
known_step v names true next h = refl
known_step v names false next h = next (omega arith)

-- a name with a place is one of the names
known_below : (names : List Word) (v : Word) → number_in names v < length names → has_name names v ≡ true
known_below [] v h = absurd (omega arith)
known_below (n ∷ names) v h = known_step v names (bytes_eq v n) (known_below names v) h

names_by : (names vs : List Word) → AllByRecursion (λ n. n < length names) (map (number_in names) vs) →
    AllByRecursion (IsNameOf names) vs
names_by names [] h = tt
names_by names (v ∷ vs) h = (known_below names v h.0, names_by names vs h.1)

below_all : (count : ℕ) (ns : List ℕ) → list_all (λ n. nat_lt n count) ns ≡ true → AllByRecursion (λ n. n < count) ns
below_all count [] h = tt
below_all count (n ∷ ns) h = (ltb-true _ _ (and_parts _ _ h).0, below_all count ns (and_parts _ _ h).1)

production_by : (names : List Word) (p : Production) →
    IsTrue (is_production (length names) (numbered_production names p)) → IsProductionOver names p
production_by names (leaf t) h = tt
production_by names (node op args) h =
    all_places _ args (names_by names args (below_all (length names) (map (number_in names) args) (and_parts _ _ h).1))

productions_by : (names : List Word) (ps : List Production) →
    AllByRecursion (λ q. IsTrue (is_production (length names) q)) (map (numbered_production names) ps) →
    AllByRecursion (IsProductionOver names) ps
productions_by names [] h = tt
productions_by names (p ∷ ps) h = (production_by names p h.0, productions_by names ps h.1)

rules_by : (names : List Word) (rs : List Rule) →
    AllByRecursion (λ ps. All (λ q. IsTrue (is_production (length names) q)) ps) (numbered_rules names rs) →
    AllByRecursion (IsRuleOver names) rs
rules_by names [] h = tt
rules_by names (r ∷ rs) h =
    (all_places _ r.productions (productions_by names r.productions (all_items _ _ h.0)), rules_by names rs h.1)

-- each start is the name of a rule
pub starts_known : (l : Lines) → IsFormed (numbered l) → All (IsNameOf (names_of l.rules)) l.starts
starts_known l is =
    let names = names_of l.rules in
    let count =
    subst (λ (n : ℕ). All (λ k. k < n) (map (number_in names) l.starts)) (sym is.names.each) is.grammar.starts_in in
    all_places _ l.starts (names_by names l.starts (all_items _ _ count))

-- each name in a rule's productions is the name of a rule
pub rules_known : (l : Lines) → IsFormed (numbered l) → All (IsRuleOver (names_of l.rules)) l.rules
rules_known l is =
    let names = names_of l.rules in
    let rules = numbered_rules names l.rules in
    let count =
    subst (λ (n : ℕ). All (All (λ p. IsTrue (is_production n p))) rules) (sym is.names.each) is.grammar.productions in
    all_places _ l.rules (rules_by names l.rules (all_items _ _ count))

-- there are few names
pub few_names : (l : Lines) → IsFormed (numbered l) → length (names_of l.rules) ≤ 16
few_names l is = omega (arith, is.names.each, is.grammar.few_rules)
