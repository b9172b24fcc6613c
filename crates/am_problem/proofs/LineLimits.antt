-- Lines are good exactly where they are within the limits.
use Rattle.std.proofs.Common.{◌≡◌, ℕ, zero, suc, ◌+◌, ◌-◌, ◌*◌, ◌<◌, ◌≤◌, ◌==◌, Bool, false, cond, sum_by, List, []}
use Rattle.std.proofs.Common.{◌∷◌, ◌++◌, length, codes, Option, Some, None, subst, sym, arith, append_assoc}
use Rattle.std.proofs.Common.{length-append, lit≤}
use Rattle.std.specs.Prelude.{IfSome}
use Rattle.std.specs.List.{AllByRecursion}
use Rattle.std.proofs.lemmas.Bool.{lt-ltb, ltb-true, ne_eqb}
use Rattle.std.proofs.lemmas.List.{append-nil}
use Rattle.std.proofs.lemmas.List.Sums.{sum_by-append}
use Rattle.am_bv.specs.Terms.{nodes}
use Rattle.am_bv.specs.declared.term.Term.{Term}
use Rattle.am_bv.proofs.Laws.{by_induction, nodes-Const, nodes-Field, nodes-Node}
use Rattle.am_syntax.specs.declared.limits.Letter.TheVariants.{X, F}
use Rattle.am_syntax.specs.Spelling.{Scope}
use Rattle.am_problem.specs.Kinds.{fields_of}
use Rattle.am_syntax.specs.Pieces.{good_from, key_or, name_or, number, optional_good}
use Rattle.am_problem.specs.LineLimits.{AreLineRules, AreNonterminals, IsLines, IsProduction, IsRule, OnceEach}
use Rattle.am_problem.specs.Lines.{Lines, Production, Rule, leaf, node}
use Rattle.am_problem.specs.Grammar.{name_before, budgets, header, productions_of_rules, node_production, problem}
use Rattle.am_problem.specs.Grammar.{production}
use Rattle.am_problem.specs.Grammar.{productions, rule, rule_name, rules, scope_at, small_term, starts}
use Rattle.am_syntax.specs.Readers.{Word}
use Rattle.am_syntax.specs.Spelling.{IsTermWithin}
use Rattle.am_syntax.specs.Names.{operator}
use Rattle.am_problem.specs.Grammar.{domain}

-- ---- what is good is within them

names_good : (word : Word) (seen names : List Word) → good_from (λ _. name_before word) seen names →
    AreNonterminals names
unfolding name_or
names_good word seen [] good = tt
names_good word seen (n ∷ names) good = (good.0, names_good word (seen ++ n ∷ []) names good.1)

-- a good production leaves room for itself
record Fits (scope : Scope) (room : ℕ) (p : Production) : Type 0 where
  fit : IsProduction scope p
  some : 0 < room

room_is : (room n : ℕ) → 0 < n → n ≤ cond (room == 0) 0 64 → (0 < room) × (n ≤ 64)
room_is zero n one h = absurd (omega arith)
room_is (suc room) n one h =
    let other : (suc room == 0) ≡ false = ne_eqb (suc room) 0 (λ e. omega arith) in
    (omega arith, subst (λ (b : Bool). n ≤ cond b 0 64) other h)

one_node : (t : Term) → 0 < nodes t
one_node t = by_induction (λ t. 0 < nodes t) (record {
  const = λ c. omega (arith, nodes-Const c);
  field = λ i. omega (arith, nodes-Field i);
  node = λ op ts h. omega (arith, nodes-Node op ts);
}) t

production_good : (scope : Scope) (room : ℕ) (p : Production) → ((t : Term) → 0 < nodes t) →
    (production scope room).Good p →
    Fits scope room p
unfolding production node_production key_or operator
production_good scope room (leaf t) one good =
    let r = room_is room (nodes t) (one t) good.few in
    record { fit = record { fit = good.fit; few = r.1; flat = good.flat }; some = r.0 }
production_good scope room (node op names) one good =
    record { fit = (good.1.1.0, names_good (codes ")") [] names good.1.1.1); some = ltb-true 0 room good.0.0 }

record AreFew (scope : Scope) (room : ℕ) (before ps : List Production) : Type 0 where
  each : AllByRecursion (IsProduction scope) ps
  few : length before + length ps ≤ room

productions_good : (scope : Scope) (room : ℕ) → ((t : Term) → 0 < nodes t) → (before ps : List Production) →
    length before ≤ room →
    good_from (λ before. production scope (room - length before)) before ps → AreFew scope room before ps
productions_good scope room one before [] h good = record { each = tt; few = omega arith }
productions_good scope room one before (p ∷ ps) h good =
    let f = production_good scope (room - length before) p one good.0 in
    let others = productions_good scope room one (before ++ p ∷ []) ps
    (omega (arith, f.some, length-append before (p ∷ []))) good.1 in
    record { each = (f.fit, others.each); few = omega (arith, others.few, length-append before (p ∷ [])) }

sum_by-one : {A : Type 0} (f : A → ℕ) (x : A) → sum_by f (x ∷ []) ≡ f x
sum_by-one f x = omega arith

more_made : (seen : List Rule) (r : Rule) → productions_of_rules (seen ++ r ∷ []) ≡ productions_of_rules seen + length
    r.productions
more_made seen r = omega (
  arith,
  sum_by-append (λ (r : Rule). length r.productions) seen (r ∷ []),
  sum_by-one (λ (r : Rule). length r.productions) r,
)

again : (seen : List Rule) (r : Rule) (rs : List Rule) → (seen ++ r ∷ []) ++ rs ≡ seen ++ r ∷ rs
again seen r rs = append_assoc seen (r ∷ []) rs

record Ruled (scope : Scope) (seen : List Rule) (r : Rule) : Type 0 where
  is : IsRule scope r
  room : length seen < 16
  productions : productions_of_rules seen + length r.productions ≤ 64
  once : OnceEach seen (r ∷ [])

rule_good : (scope : Scope) (seen : List Rule) (r : Rule) → productions_of_rules seen ≤ 64 → (rule scope seen).Good r →
    Ruled scope seen r
unfolding rule rule_name productions
rule_good scope seen r h good =
    let ps = productions_good scope (64 - productions_of_rules seen) one_node [] r.productions (omega arith) good.1 in
    record {
      is = record { name = good.0.0; productions = ps.each };
      room = good.0.1;
      productions = omega (arith, ps.few, h);
      once = (good.0.2, tt);
    }

rules_good : (scope : Scope) (seen rs : List Rule) → length seen ≤ 16 → productions_of_rules seen ≤ 64 →
    good_from (rule scope) seen rs →
    AreLineRules scope seen rs
rules_good scope seen [] h k good = record {
  each = tt;
  once = tt;
  few = subst (λ (xs : List Rule). length xs ≤ 16) (sym (append-nil seen)) h;
  few_productions = subst (λ (xs : List Rule). productions_of_rules xs ≤ 64) (sym (append-nil seen)) k;
}
rules_good scope seen (r ∷ rs) h k good =
    let one = rule_good scope seen r k good.0 in
    let others = rules_good scope (seen ++ r ∷ []) rs (omega (arith, one.room, length-append seen (r ∷ [])))
    (omega (arith, one.productions, more_made seen r)) good.1 in
    record {
      each = (one.is, others.each);
      once = (one.once.0, others.once);
      few = subst (λ (xs : List Rule). length xs ≤ 16) (again seen r rs) others.few;
      few_productions = subst (λ (xs : List Rule). productions_of_rules xs ≤ 64) (again seen r rs)
          others.few_productions;
    }

assumed : (scope : Scope) (o : Option Term) → optional_good (small_term scope) o → IfSome o (IsTermWithin scope 64 64)
assumed scope None good = tt
assumed scope (Some t) good = good

-- what is good is within the limits
pub lines_good : (d : Lines) → problem.Good d → IsLines d
unfolding problem header starts budgets rules number
lines_good d good =
    let h = good.0 in
    let b = good.1.1.1.0 in
    record {
      width = h.1.0;
      inputs = h.1.1.0;
      operation = h.1.1.1.0;
      assume = assumed (scope_at d.header.width X d.header.inputs) d.header.assume h.1.1.1.1;
      start_per_field = good.1.1.0.0;
      starts = names_good (codes "depth") [] d.starts good.1.1.0.1;
      depth = b.0;
      turns = b.1.0.1;
      conflicts = b.1.1;
      rules =
          rules_good (scope_at d.header.width F (d.header.inputs * fields_of d.kind)) [] d.rules (lit≤ tt) (lit≤ tt)
          good.1.1.1.1;
    }

-- ---- and back

names_back : (word : Word) (seen names : List Word) → AreNonterminals names →
    good_from (λ _. name_before word) seen names
unfolding name_or
names_back word seen [] are = tt
names_back word seen (n ∷ names) are = (are.0, names_back word (seen ++ n ∷ []) names are.1)

room_back : (room n : ℕ) → 0 < room → n ≤ 64 → n ≤ cond (room == 0) 0 64
room_back room n some h =
    let other : (room == 0) ≡ false = ne_eqb room 0 (λ e. omega arith) in
    subst (λ (b : Bool). n ≤ cond b 0 64) (sym other) h

production_back : (scope : Scope) (room : ℕ) (p : Production) → 0 < room → IsProduction scope p →
    (production scope room).Good p
unfolding production node_production key_or operator
production_back scope room (leaf t) some is =
    record { fit = is.fit; few = room_back room (nodes t) some is.few; flat = is.flat }
production_back scope room (node op names) some is =
    ((lt-ltb 0 room some, tt), (tt, (is.0, names_back (codes ")") [] names is.1)))

productions_back : (scope : Scope) (room : ℕ) (before ps : List Production) → AllByRecursion (IsProduction scope) ps →
    length before + length ps ≤ room →
    good_from (λ before. production scope (room - length before)) before ps
productions_back scope room before [] each few = tt
productions_back scope room before (p ∷ ps) each few = (
  production_back scope (room - length before) p (omega arith) each.0,
  productions_back scope room (before ++ p ∷ []) ps each.1 (omega (arith, length-append before (p ∷ []))),
)

rule_back : (scope : Scope) (seen : List Rule) (r : Rule) → Ruled scope seen r → (rule scope seen).Good r
unfolding rule rule_name productions
rule_back scope seen r is = (
  (is.is.name, is.room, is.once.0),
  productions_back scope (64 - productions_of_rules seen) [] r.productions is.is.productions
      (omega (arith, is.productions)),
)

rules_back : (scope : Scope) (seen rs : List Rule) → AreLineRules scope seen rs → good_from (rule scope) seen rs
rules_back scope seen [] are = tt
rules_back scope seen (r ∷ rs) are =
    let few = subst (λ (xs : List Rule). length xs ≤ 16) (sym (again seen r rs)) are.few in
    let few_productions = subst (λ (xs : List Rule). productions_of_rules xs ≤ 64) (sym (again seen r rs))
    are.few_productions in
    let shorter : length seen < 16 =
    omega (arith, few, length-append (seen ++ r ∷ []) rs, length-append seen (r ∷ [])) in
    let fewer : productions_of_rules seen + length r.productions ≤ 64 = omega (
      arith,
      few_productions,
      sum_by-append (λ (r : Rule). length r.productions) (seen ++ r ∷ []) rs,
      more_made seen r,
    ) in (
      rule_back scope seen r (record { is = are.each.0; room = shorter; productions = fewer; once = (are.once.0, tt) }),
      rules_back scope (seen ++ r ∷ []) rs
          (record { each = are.each.1; once = are.once.1; few = few; few_productions = few_productions }),
    )

assumed_back : (scope : Scope) (o : Option Term) → IfSome o (IsTermWithin scope 64 64) → optional_good
    (small_term scope) o
assumed_back scope None is = tt
assumed_back scope (Some t) is = is

-- what is within the limits is good
pub lines_back : (d : Lines) → IsLines d → problem.Good d
unfolding problem header starts budgets rules number domain
lines_back d is = (
  (
    (omega arith, omega arith),
    (
      is.width,
      (is.inputs, (is.operation, assumed_back (scope_at d.header.width X d.header.inputs) d.header.assume is.assume)),
    ),
  ),
  (
    tt,
    (
      (is.start_per_field, names_back (codes "depth") [] d.starts is.starts),
      (
        (is.depth, ((omega arith, is.turns), is.conflicts)),
        rules_back (scope_at d.header.width F (d.header.inputs * fields_of d.kind)) [] d.rules is.rules,
      ),
    ),
  ),
)
