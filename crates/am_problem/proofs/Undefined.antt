-- The names in the words of lines: which of them come before the lines' end, and whether rules have them.
use Rattle.std.proofs.Common.{◌≡◌, ℕ, ◌-◌, ◌*◌, ◌<◌, ◌^◌, Bool, true, false, cond, not, ◌&&◌, ◌||◌, List, [], ◌∷◌, ◌++◌}
use Rattle.std.proofs.Common.{length, flat_map, decimal, codes, Option, Some, None, bytes_eq, append_assoc, ap, subst}
use Rattle.std.proofs.Common.{refl, sym, ◌∙◌, arith}
use Rattle.std.specs.List.{AllByRecursion, list_all, list_any}
use Rattle.std.specs.Prelude.{IsTrue}
use Rattle.std.proofs.lemmas.Bool.{and_parts, ltb-true}
use Rattle.am_text.specs.Tokens.{Placed}
use Rattle.am_bv.proofs.Laws.{by_induction, fits-Const, fits-Node}
use Rattle.am_bv.specs.Terms.{fits}
use Rattle.am_bv.specs.declared.op.Op.{Op}
use Rattle.am_bv.specs.declared.op.Op.TheVariants.{Not}
use Rattle.am_bv.specs.declared.term.Term.{Term}
use Rattle.am_syntax.proofs.Laws.{decimal-is_digits, digits_apart, narrow, same_bytes, words-Const, words-Field}
use Rattle.am_syntax.proofs.Laws.{words-Node}
use Rattle.am_syntax.specs.Exact.{words_in}
use Rattle.am_syntax.specs.Names.{op_name, operator}
use Rattle.am_syntax.specs.Numerals.{is_digits, is_name}
use Rattle.am_syntax.specs.Pieces.{good_from, key_or, name_or, number, optional_good, optional_spelled, spelled_from}
use Rattle.am_syntax.specs.Readers.{Word, Words}
use Rattle.am_syntax.specs.Spelling.{IsScope, Scope, letter_code, term_words}
use Rattle.am_syntax.specs.declared.limits.Letter.{Letter}
use Rattle.am_syntax.specs.declared.limits.Letter.TheVariants.{X, F}
use Rattle.am_problem.specs.declared.kind.Kind.{Kind}
use Rattle.am_problem.specs.declared.kind.Kind.TheVariants.{UInterval}
use Rattle.am_problem.specs.Grammar.{budgets, domain, has_name, header, name_before, node_production}
use Rattle.am_problem.specs.Grammar.{productions_of_rules}
use Rattle.am_problem.specs.Grammar.{problem, production, productions, rule, rule_name, rules, scope_at, small_term}
use Rattle.am_problem.specs.Grammar.{starts}
use Rattle.am_problem.specs.Kinds.{fields_of, kind_name}
use Rattle.am_problem.specs.Lines.{Budgets, Header, Lines, Production, Rule, leaf, node}
use Rattle.am_problem.specs.Texts.{is_undefined, undefined_in}
use Rattle.am_problem.proofs.FirstUndefined.{undefined-cons, undefined-nil}
use Rattle.am_problem.proofs.ProblemLaws.{digit_name}
use Rattle.am_problem.proofs.LineLaws.{field_scope, input_scope}

-- ---- an undefined name before the end

-- whether such a name comes before `end`
abbrev pub comes : List Word → Words → Bool
comes names [] = false
comes names (v ∷ vs) = cond (bytes_eq v (codes "end")) false (is_undefined names v || comes names vs)

none_step : (stops here : Bool) (place : ℕ) (later : Option ℕ) (more : Bool) →
    cond stops None (cond here (Some place) later) ≡ None →
    (later ≡ None → more ≡ false) → cond stops false (here || more) ≡ false
none_step true here place later more h next = refl
none_step false true place later more h next = absurd (let f : ◌≡◌ {A = Option ℕ} (Some place) None = h in cc)
none_step false false place later more h next = next h

-- where no undefined name is found, none comes before `end`
pub none_comes : (names : List Word) (tokens : List Placed) → undefined_in names tokens ≡ None →
    comes names (words_in tokens) ≡ false
none_comes names [] h = refl
none_comes names (t ∷ ts) h =
    none_step (bytes_eq t.word (codes "end")) (is_undefined names t.word) t.place (undefined_in names ts) _
    (sym (undefined-cons names t ts) ∙ h)
    (none_comes names ts)

found_step : (stops here : Bool) (place : ℕ) (later : Option ℕ) (more : Bool) →
    cond stops false (here || more) ≡ false →
    (more ≡ false → later ≡ None) → cond stops None (cond here (Some place) later) ≡ None
found_step true here place later more h next = refl
found_step false true place later more h next = absurd cc
found_step false false place later more h next = next h

-- where no undefined name comes before `end`, none is found
pub none_found : (names : List Word) (tokens : List Placed) → comes names (words_in tokens) ≡ false →
    undefined_in names tokens ≡ None
none_found names [] h = undefined-nil names
none_found names (t ∷ ts) h =
    undefined-cons names t ts
    ∙ found_step (bytes_eq t.word (codes "end")) (is_undefined names t.word) t.place (undefined_in names ts) _ h
    (none_found names ts)

-- ---- words without names

-- neither a name nor `end`
record Quiet (v : Word) : Type 0 where
  no_name : is_name v ≡ false
  no_end : bytes_eq v (codes "end") ≡ false

abbrev AreQuiet : Words → Type 0
AreQuiet ws = AllByRecursion Quiet ws

quiet_past : (names : List Word) (vs ws : Words) → AreQuiet vs → comes names (vs ++ ws) ≡ comes names ws
quiet_past names [] ws h = refl
quiet_past names (v ∷ vs) ws h =
    ap (λ b. cond b false (is_undefined names v || comes names (vs ++ ws))) h.0.no_end
    ∙ ap (λ b. (b && not (has_name names v)) || comes names (vs ++ ws)) h.0.no_name
    ∙ quiet_past names vs ws h.1

quiet_both : (vs ws : Words) → AreQuiet vs → AreQuiet ws → AreQuiet (vs ++ ws)
quiet_both [] ws h k = k
quiet_both (v ∷ vs) ws h k = (h.0, quiet_both vs ws h.1 k)

quiet_digits : (v : Word) → is_digits v ≡ true → Quiet v
quiet_digits v h = record { no_name = digit_name v h; no_end = digits_apart v (codes "end") h refl }

quiet_number : (n : ℕ) → n < 2 ^ 64 → Quiet (decimal n)
quiet_number n h = quiet_digits (decimal n) (decimal-is_digits n h)

quiet_operator : (op : Op) → Quiet (op_name op)
quiet_operator Not = record { no_name = refl; no_end = refl }
quiet_operator _ = record { no_name = refl; no_end = refl }

quiet_kind : (kind : Kind) → Quiet (kind_name kind)
quiet_kind UInterval = record { no_name = refl; no_end = refl }
quiet_kind _ = record { no_name = refl; no_end = refl }

quiet_variable : (l : Letter) (i : ℕ) → Quiet (letter_code l ∷ decimal i)
quiet_variable X i = record { no_name = refl; no_end = refl }
quiet_variable F i = record { no_name = refl; no_end = refl }

abbrev IsQuietTerm : Scope → Term → Type 0
IsQuietTerm scope t = fits scope.width scope.variables t ≡ true → AreQuiet (term_words (letter_code scope.letter) t)

quiet_arguments : (scope : Scope) (ts : List Term) → AllByRecursion (IsQuietTerm scope) ts →
    list_all (fits scope.width scope.variables) ts ≡ true →
    AreQuiet (flat_map (term_words (letter_code scope.letter)) ts)
quiet_arguments scope [] h fit = tt
quiet_arguments scope (t ∷ ts) h fit =
    quiet_both (term_words (letter_code scope.letter) t) _ (h.0 (and_parts _ _ fit).0)
    (quiet_arguments scope ts h.1 (and_parts _ _ fit).1)

quiet_term : (scope : Scope) → IsScope scope → (t : Term) → IsQuietTerm scope t
quiet_term scope is = by_induction (IsQuietTerm scope) (record {
  const = λ c fit.
      let small = narrow scope.width c is.width (ltb-true _ _ (sym (fits-Const scope.width scope.variables c) ∙ fit)) in
      subst AreQuiet (sym (words-Const (letter_code scope.letter) c)) (quiet_number c small, tt);
  field = λ i fit. subst AreQuiet (sym (words-Field (letter_code scope.letter) i)) (quiet_variable scope.letter i, tt);
  node = λ op ts h fit.
      let each = (and_parts _ _ (sym (fits-Node scope.width scope.variables op ts) ∙ fit)).1 in
      let parenthesis : Quiet (codes "(") = record { no_name = refl; no_end = refl } in
      let closing : Quiet (codes ")") = record { no_name = refl; no_end = refl } in
      subst AreQuiet (sym (words-Node (letter_code scope.letter) op ts)) (
        parenthesis,
        (
          quiet_operator op,
          quiet_both (flat_map (term_words (letter_code scope.letter)) ts) (codes ")" ∷ [])
              (quiet_arguments scope ts h each) (closing, tt),
        ),
      );
})

-- ---- names

name_no_end : (v : Word) → is_name v ≡ true → (b : Bool) → bytes_eq v (codes "end") ≡ b → b ≡ false
name_no_end v name false e = refl
name_no_end v name true e = absurd (let f : true ≡ false = sym name ∙ ap is_name (same_bytes v (codes "end") e) in cc)

or_again : (a b c : Bool) → (a || (b || c)) ≡ ((a || b) || c)
or_again true b c = refl
or_again false b c = refl

-- whether one of these is no rule's
abbrev pub missing : List Word → List Word → Bool
missing names vs = list_any (λ v. not (has_name names v)) vs

name_past : (names : List Word) (v : Word) (ws : Words) → is_name v ≡ true →
    comes names (v ∷ ws) ≡ (not (has_name names v) || comes names ws)
name_past names v ws name =
    ap (λ b. cond b false (is_undefined names v || comes names ws)) (name_no_end v name (bytes_eq v (codes "end")) refl)
    ∙ ap (λ b. (b && not (has_name names v)) || comes names ws) name

names_past : (names vs : List Word) (ws : Words) → AllByRecursion (λ v. IsTrue (is_name v)) vs →
    comes names (vs ++ ws) ≡ (missing names vs || comes names ws)
names_past names [] ws h = refl
names_past names (v ∷ vs) ws h =
    name_past names v (vs ++ ws) h.0
    ∙ ap (λ b. not (has_name names v) || b) (names_past names vs ws h.1)
    ∙ or_again (not (has_name names v)) (missing names vs) (comes names ws)

-- names are spelled as they are
pub names_spelled : (word : Word) (seen vs : List Word) → spelled_from (λ _. name_before word) seen vs ≡ vs
unfolding name_or
names_spelled word seen [] = refl
names_spelled word seen (v ∷ vs) = ap (λ ws. v ∷ ws) (names_spelled word (seen ++ v ∷ []) vs)

names_good : (word : Word) (seen vs : List Word) → good_from (λ _. name_before word) seen vs →
    AllByRecursion (λ v. IsTrue (is_name v)) vs
unfolding name_or
names_good word seen [] good = tt
names_good word seen (v ∷ vs) good = (good.0, names_good word (seen ++ v ∷ []) vs good.1)

-- ---- productions and rules

-- whether a nonterminal of a production has no rule
abbrev pub missing_in : List Word → Production → Bool
missing_in names (leaf t) = false
missing_in names (node op args) = missing names args

production_past : (scope : Scope) → IsScope scope → (room : ℕ) (names : List Word) (p : Production) (ws : Words) →
    (production scope room).Good p →
    comes names ((production scope room).spell p ++ ws) ≡ (missing_in names p || comes names ws)
unfolding production node_production key_or operator
production_past scope is room names (leaf t) ws good =
    quiet_past names (term_words (letter_code scope.letter) t) ws (quiet_term scope is t good.fit)
production_past scope is room names (node op args) ws good =
    let quiet = quiet_operator op in
    ap
    (λ b. cond b false
    (is_undefined names (op_name op)
    || comes names ((spelled_from (λ _. name_before (codes ")")) [] args ++ codes ")" ∷ []) ++ ws)))
    quiet.no_end
    ∙ ap
    (λ b. (b && not (has_name names (op_name op)))
    || comes names ((spelled_from (λ _. name_before (codes ")")) [] args ++ codes ")" ∷ []) ++ ws))
    quiet.no_name
    ∙ ap (λ (vs : Words). comes names ((vs ++ codes ")" ∷ []) ++ ws)) (names_spelled (codes ")") [] args)
    ∙ ap (comes names) (append_assoc args (codes ")" ∷ []) ws)
    ∙ names_past names args (codes ")" ∷ ws) (names_good (codes ")") [] args good.1.1.1)

-- whether one of these productions has such a nonterminal
abbrev pub missing_among : List Word → List Production → Bool
missing_among names ps = list_any (missing_in names) ps

productions_past : (scope : Scope) → IsScope scope →
    (room : ℕ) (names : List Word) (seen ps : List Production) (ws : Words) →
    good_from (λ before. production scope (room - length before)) seen ps →
    comes names (spelled_from (λ before. production scope (room - length before)) seen ps ++ ws)
    ≡ (missing_among names ps || comes names ws)
productions_past scope is room names seen [] ws good = refl
productions_past scope is room names seen (p ∷ ps) ws good =
    let item = λ (before : List Production). production scope (room - length before) in
    ap (comes names) (append_assoc ((item seen).spell p) (spelled_from item (seen ++ p ∷ []) ps) ws)
    ∙ production_past scope is (room - length seen) names p _ good.0
    ∙ ap (λ b. missing_in names p || b) (productions_past scope is room names (seen ++ p ∷ []) ps ws good.1)
    ∙ or_again (missing_in names p) (missing_among names ps) (comes names ws)

-- whether a rule's name or a nonterminal in its productions has no rule
abbrev pub missing_rule : List Word → Rule → Bool
missing_rule names r = not (has_name names r.name) || missing_among names r.productions

-- whether one of these rules has such a name
abbrev pub missing_rules : List Word → List Rule → Bool
missing_rules names rs = list_any (missing_rule names) rs

rule_past : (scope : Scope) → IsScope scope → (names : List Word) (seen : List Rule) (r : Rule) (ws : Words) →
    (rule scope seen).Good r →
    comes names ((rule scope seen).spell r ++ ws) ≡ (missing_rule names r || comes names ws)
unfolding rule rule_name productions
rule_past scope is names seen r ws good =
    name_past names r.name
    (spelled_from (λ (before : List Production). production scope (64 - productions_of_rules seen - length before)) []
    r.productions
    ++ ws)
    good.0.0
    ∙ ap (λ b. not (has_name names r.name) || b) (productions_past scope is _ names [] r.productions ws good.1)
    ∙ or_again (not (has_name names r.name)) (missing_among names r.productions) (comes names ws)

rules_past : (scope : Scope) → IsScope scope → (names : List Word) (seen rs : List Rule) (ws : Words) →
    good_from (rule scope) seen rs →
    comes names (spelled_from (rule scope) seen rs ++ ws) ≡ (missing_rules names rs || comes names ws)
rules_past scope is names seen [] ws good = refl
rules_past scope is names seen (r ∷ rs) ws good =
    ap (comes names) (append_assoc ((rule scope seen).spell r) (spelled_from (rule scope) (seen ++ r ∷ []) rs) ws)
    ∙ rule_past scope is names seen r _ good.0
    ∙ ap (λ b. missing_rule names r || b) (rules_past scope is names (seen ++ r ∷ []) rs ws good.1)
    ∙ or_again (missing_rule names r) (missing_rules names rs) (comes names ws)

-- ---- all lines

quiet_assume : (scope : Scope) → IsScope scope → (o : Option Term) → optional_good (small_term scope) o →
    AreQuiet (optional_spelled (codes "assume") (small_term scope) o)
quiet_assume scope is None good = tt
quiet_assume scope is (Some t) good = (record { no_name = refl; no_end = refl }, quiet_term scope is t good.fit)

quiet_header : (h : Header) → header.Good h → AreQuiet (header.spell h)
unfolding header number
quiet_header h good =
    let key : Quiet (codes "amurth") = record { no_name = refl; no_end = refl } in
    let width : Quiet (codes "width") = record { no_name = refl; no_end = refl } in
    let operation : Quiet (codes "operation") = record { no_name = refl; no_end = refl } in
    let scope = scope_at h.width X h.inputs in
    let is = input_scope h.width h.inputs good.1.0.1 good.1.1.0.1 in (
      key,
      (
        quiet_number 1 (omega arith),
        (
          width,
          (
            quiet_number h.width (omega (arith, good.1.0.1)),
            (
              operation,
              (
                quiet_number h.inputs (omega (arith, good.1.1.0.1)),
                quiet_both (term_words (letter_code X) h.operation) _ (quiet_term scope is h.operation good.1.1.1.0.fit)
                    (quiet_assume scope is h.assume good.1.1.1.1),
              ),
            ),
          ),
        ),
      ),
    )

quiet_budgets : (b : Budgets) → budgets.Good b → AreQuiet (budgets.spell b)
unfolding budgets number
quiet_budgets b good =
    let depth : Quiet (codes "depth") = record { no_name = refl; no_end = refl } in
    let turns : Quiet (codes "turns") = record { no_name = refl; no_end = refl } in
    let conflicts : Quiet (codes "conflicts") = record { no_name = refl; no_end = refl } in (
      depth,
      (
        quiet_number b.depth (omega (arith, good.0.1)),
        (
          turns,
          (
            quiet_number b.turns (omega (arith, good.1.0.1)),
            (conflicts, (quiet_number b.conflicts (omega (arith, good.1.1.1)), tt)),
          ),
        ),
      ),
    )

starts_past : (names : List Word) (k : ℕ) (vs : List Word) (ws : Words) → (starts k).Good vs →
    comes names ((starts k).spell vs ++ ws) ≡ (missing names vs || comes names ws)
unfolding starts
starts_past names k vs ws good =
    ap (λ (us : Words). comes names (us ++ ws)) (names_spelled (codes "depth") [] vs)
    ∙ names_past names vs ws (names_good (codes "depth") [] vs good.1)

quiet_domain : (kind : Kind) → AreQuiet (codes "domain" ∷ kind_name kind ∷ [])
quiet_domain kind = (record { no_name = refl; no_end = refl }, (quiet_kind kind, tt))

-- whether a name of these lines is no rule's
abbrev pub missing_lines : List Word → Lines → Bool
missing_lines names l = missing names l.starts || missing_rules names l.rules

or_false : (b : Bool) → (b || false) ≡ b
or_false true = refl
or_false false = refl

-- what comes before the end of lines
pub lines_past : (names : List Word) (l : Lines) (rest : Words) → problem.Good l →
    comes names (problem.spell l ++ rest) ≡ missing_lines names l
unfolding problem domain rules
lines_past names l rest good =
    let scope = scope_at l.header.width F (l.header.inputs * fields_of l.kind) in
    let is = field_scope l.header l.kind good.0 in
    let h = header.spell l.header in
    let d : Words = codes "domain" ∷ kind_name l.kind ∷ [] in
    let s = (starts (fields_of l.kind)).spell l.starts in
    let b = budgets.spell l.budgets in
    let r = spelled_from (rule scope) [] l.rules in
    ap (comes names) (append_assoc h (d ++ (s ++ (b ++ (r ++ codes "end" ∷ [])))) rest)
    ∙ quiet_past names h ((d ++ (s ++ (b ++ (r ++ codes "end" ∷ [])))) ++ rest) (quiet_header l.header good.0)
    ∙ quiet_past names d ((s ++ (b ++ (r ++ codes "end" ∷ []))) ++ rest) (quiet_domain l.kind)
    ∙ ap (comes names) (append_assoc s (b ++ (r ++ codes "end" ∷ [])) rest)
    ∙ starts_past names (fields_of l.kind) l.starts ((b ++ (r ++ codes "end" ∷ [])) ++ rest) good.1.1.0
    ∙ ap (λ v. missing names l.starts || v)
    (ap (comes names) (append_assoc b (r ++ codes "end" ∷ []) rest)
    ∙ quiet_past names b ((r ++ codes "end" ∷ []) ++ rest) (quiet_budgets l.budgets good.1.1.1.0)
    ∙ ap (comes names) (append_assoc r (codes "end" ∷ []) rest)
    ∙ rules_past scope is names [] l.rules (codes "end" ∷ rest) good.1.1.1.1
    ∙ or_false (missing_rules names l.rules))
