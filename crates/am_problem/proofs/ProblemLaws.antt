-- A problem that is read is spelled so, and a problem that is spelled is read.
use Rattle.std.proofs.Common.{◌≡◌, ℕ, ◌-◌, ◌<◌, Bool, true, false, cond, not, ◌||◌, ◌==◌, nat_le, List, [], ◌∷◌, ◌++◌}
use Rattle.std.proofs.Common.{length, decimal, flat_map, codes, Result, Ok, Err, bytes_eq, ap, subst, ◌∙◌, sym, refl}
use Rattle.std.proofs.Common.{arith, inl, inr, lit<, IsTrue}
use Rattle.std.specs.Prelude.{◌⊎◌, is_some, nat_lt}
use Rattle.std.proofs.lemmas.Bool.{and_from, and_left, and_right, leb-true, ltb-true, and_parts, leb-false}
use Rattle.std.proofs.lemmas.Bool.{lt-leb}
use Rattle.am_bv.specs.Operators.{arity}
use Rattle.am_bv.specs.declared.op.Op.{Op}
use Rattle.am_bv.specs.declared.op.Op.TheVariants.{Not, Neg, Ite}
use Rattle.am_bv.specs.declared.term.Term.{Term}
use Rattle.am_syntax.specs.declared.refusal.Cause.{Cause}
use Rattle.am_syntax.specs.declared.refusal.Cause.TheVariants.{Syntax, Count, Twice}
use Rattle.am_syntax.specs.Numerals.{is_digits, is_name}
use Rattle.am_syntax.specs.Readers.{Word, Words}
use Rattle.am_syntax.specs.Pieces.{Piece, count, key_or, name_or, next_is, syntax, too_early}
use Rattle.am_problem.specs.Lines.{Production, Rule, leaf, node}
use Rattle.am_problem.specs.Grammar.{goes_on, has_name, leaf_production, names_of, node_production, opening}
use Rattle.am_problem.specs.Grammar.{productions_of_rules}
use Rattle.am_problem.specs.Grammar.{opens_names, production, production_of, production_parts}
use Rattle.am_problem.specs.Grammar.{productions, rule, rule_name, rule_name_judge, rule_of, rule_parts, rules}
use Rattle.am_syntax.specs.declared.limits.Letter.{Letter}
use Rattle.am_syntax.specs.declared.limits.Letter.TheVariants.{X, F}
use Rattle.am_syntax.specs.Names.{op_name}
use Rattle.am_syntax.specs.Spelling.{IsScope, Scope, letter_code, term_words}
use Rattle.am_bv.specs.Terms.{fits}
use Rattle.am_bv.proofs.Laws.{by_induction, fits-Const, fits-Node}
use Rattle.std.specs.List.{AllByRecursion, list_all}
use Rattle.am_syntax.proofs.Laws.{decimal-is_digits}
use Rattle.am_syntax.specs.Names.{operator}
use Rattle.am_syntax.proofs.Laws.{repeat_law, times_law}
use Rattle.am_syntax.specs.Exact.{IsExact, always}
use Rattle.am_syntax.proofs.Laws.{choice_by_law, closed_law, key_law, keyed_law, one_more_law, same_bytes, seen_law}
use Rattle.am_syntax.proofs.Laws.{then_law, token_law}
use Rattle.am_syntax.proofs.Laws.{digits_apart, narrow, term_within_law, words-Const, words-Field, words-Node}
use Rattle.am_syntax.proofs.Laws.{chosen, name_law, op_named-name, operator_law}
use Rattle.am_problem.proofs.RefusedProductions.{applied_law, production_alike}

-- ---- productions

pub opening_law : (room : ℕ) → IsExact (opening room) always
opening_law room = one_more_law (nat_lt 0 room) (key_law syntax (codes "("))

pub node_law : (room : ℕ) → IsExact (node_production room) always
unfolding node_production
node_law room = then_law (opening_law room) (λ _ _. applied_law) (λ _ _ _ _ _ _. tt)

pub leaf_law : (scope : Scope) → IsScope scope → (room : ℕ) → IsExact (leaf_production scope room) always
leaf_law scope is room = term_within_law scope is false 64 (cond (room == 0) 0 64)

there : (x : (Unit {0} × (Op × List Word)) ⊎ Term) → production_parts (production_of x) ≡ x
there (inl x) = refl
there (inr t) = refl

back : (p : Production) → production_of (production_parts p) ≡ p
back (leaf t) = refl
back (node op names) = refl

at_least_one : (op : Op) → 0 < arity op
at_least_one Not = lit< tt
at_least_one Neg = lit< tt
at_least_one Ite = lit< tt
at_least_one _ = lit< tt

node_opens : (room : ℕ) (x : Unit {0} × (Op × List Word)) (rest : Words) → (node_production room).Good x →
    opens_names ((node_production room).spell x ++ rest) ≡ true
unfolding node_production key_or operator name_or
node_opens room (u, (op, [])) rest good = absurd (omega (arith, at_least_one op, good.1.1.0))
node_opens room (u, (op, n ∷ names)) rest good = and_from _ _ (ap is_some (op_named-name op)) good.1.1.1.0

-- how a term begins: with no name and no key word
record Starts (v : Word) : Type 0 where
  no_name : is_name v ≡ false
  no_rule : bytes_eq v (codes "rule") ≡ false
  no_end : bytes_eq v (codes "end") ≡ false

record Begins (scope : Scope) (t : Term) : Type 0 where
  first : Word
  others : Words
  text : term_words (letter_code scope.letter) t ≡ first ∷ others
  starts : Starts first
  closed_up : (rest : Words) → opens_names (first ∷ (others ++ rest)) ≡ false

-- where no parenthesis opens
not_open : (v : Word) (rest : Words) → bytes_eq v (codes "(") ≡ false → opens_names (v ∷ rest) ≡ false
not_open v [] h = refl
not_open v (b ∷ []) h = refl
not_open v (b ∷ c ∷ rest) h = and_left _ _ (and_left _ _ h)

-- where no name is in the third place
no_third : (v b c : Word) (rest : Words) → is_name c ≡ false → opens_names (v ∷ b ∷ c ∷ rest) ≡ false
no_third v b c rest h = and_right _ _ h

-- a row of digits is no name
pub digit_name : (v : Word) → is_digits v ≡ true → is_name v ≡ false
digit_name [] h = refl
digit_name (b ∷ bs) h =
    let digit = and_parts _ _ (and_parts _ _ (and_parts _ _ h).1).0 in
    let most = leb-true b 57 digit.1 in
    and_left _ _ (and_left _ _ (and_left _ _ (lt-leb 65 b (omega arith))))

abbrev StartsSo : Scope → Term → Type 0
StartsSo scope t = fits scope.width scope.variables t ≡ true → Begins scope t

variable_starts : (l : Letter) (i : ℕ) → Starts (letter_code l ∷ decimal i)
variable_starts X i = record { no_name = refl; no_rule = refl; no_end = refl }
variable_starts F i = record { no_name = refl; no_rule = refl; no_end = refl }

variable_opens : (l : Letter) (i : ℕ) → bytes_eq (letter_code l ∷ decimal i) (codes "(") ≡ false
variable_opens X i = refl
variable_opens F i = refl

node_closed_up : (scope : Scope) (op : Op) (ts : List Term) → AllByRecursion (StartsSo scope) ts →
    list_all (fits scope.width scope.variables) ts ≡ true → (rest : Words) →
    opens_names
    (codes "(" ∷ op_name op ∷ ((flat_map (term_words (letter_code scope.letter)) ts ++ codes ")" ∷ []) ++ rest))
    ≡ false
node_closed_up scope op [] h fit rest = no_third (codes "(") (op_name op) (codes ")") rest refl
node_closed_up scope op (t ∷ ts) h fit rest =
    let one = h.0 (and_parts _ _ fit).0 in
    ap
    (λ (ws : Words). opens_names
    (codes "(" ∷ op_name op
    ∷ (((ws ++ flat_map (term_words (letter_code scope.letter)) ts) ++ codes ")" ∷ []) ++ rest)))
    one.text
    ∙ no_third (codes "(") (op_name op) one.first
    (((one.others ++ flat_map (term_words (letter_code scope.letter)) ts) ++ codes ")" ∷ []) ++ rest) one.starts.no_name

begins : (scope : Scope) → IsScope scope → (t : Term) → StartsSo scope t
begins scope is t = by_induction (StartsSo scope) (record {
  const = λ c fit.
      let small = narrow scope.width c is.width (ltb-true _ _ (sym (fits-Const scope.width scope.variables c) ∙ fit)) in
      let digits = decimal-is_digits c small in
      record {
        first = decimal c;
        others = [];
        text = words-Const (letter_code scope.letter) c;
        starts = record {
          no_name = digit_name (decimal c) digits;
          no_rule = digits_apart (decimal c) (codes "rule") digits refl;
          no_end = digits_apart (decimal c) (codes "end") digits refl;
        };
        closed_up = λ rest. not_open (decimal c) rest (digits_apart (decimal c) (codes "(") digits refl);
      };
  field = λ i fit. record {
    first = letter_code scope.letter ∷ decimal i;
    others = [];
    text = words-Field (letter_code scope.letter) i;
    starts = variable_starts scope.letter i;
    closed_up = λ rest. not_open (letter_code scope.letter ∷ decimal i) rest (variable_opens scope.letter i);
  };
  node = λ op ts h fit. record {
    first = codes "(";
    others = op_name op ∷ (flat_map (term_words (letter_code scope.letter)) ts ++ codes ")" ∷ []);
    text = words-Node (letter_code scope.letter) op ts;
    starts = record { no_name = refl; no_rule = refl; no_end = refl };
    closed_up =
        node_closed_up scope op ts h
        (and_parts (length ts == arity op) (list_all (fits scope.width scope.variables) ts)
        (sym (fits-Node scope.width scope.variables op ts) ∙ fit)).1;
  };
}) t

leaf_doesnt : (scope : Scope) → IsScope scope → (room : ℕ) (t : Term) (rest : Words) →
    (leaf_production scope room).Good t →
    opens_names ((leaf_production scope room).spell t ++ rest) ≡ false
leaf_doesnt scope is room t rest good =
    let b = begins scope is t good.fit in
    ap (λ (ws : Words). opens_names (ws ++ rest)) b.text ∙ b.closed_up rest

pub production_law : (scope : Scope) → IsScope scope → (room : ℕ) → IsExact (production scope room) always
unfolding production
production_law scope is room =
    seen_law production_of production_parts
    (choice_by_law opens_names (node_law room) (leaf_law scope is room) (node_opens room) (leaf_doesnt scope is room)
    (production_alike scope room (node_law room) (leaf_law scope is room)))
    (λ x good. there x) back

-- a production begins as no key word does
production_goes : (scope : Scope) → IsScope scope → (room : ℕ) (p : Production) (rest : Words) →
    (production scope room).Good p →
    goes_on ((production scope room).spell p ++ rest) ≡ true
unfolding production node_production key_or
production_goes scope is room (leaf t) rest good =
    let b = begins scope is t good.fit in
    ap (λ (ws : Words). goes_on (ws ++ rest)) b.text
    ∙ ap not (ap (λ (x : Bool). x || bytes_eq b.first (codes "end")) b.starts.no_rule ∙ b.starts.no_end)
production_goes scope is room (node op names) rest good = refl

production_moves : (scope : Scope) → IsScope scope → (room : ℕ) (p : Production) → (production scope room).Good p →
    0 < length ((production scope room).spell p)
unfolding production node_production key_or
production_moves scope is room (leaf t) good = let b = begins scope is t good.fit in omega (arith, ap length b.text)
production_moves scope is room (node op names) good = omega arith

-- no further production of a rule comes
abbrev pub EndsRule : Words → Type 0
EndsRule rest = goes_on rest ≡ false

module _ (scope : Scope) (is : IsScope scope) (room : ℕ) where
  -- the piece of the next production, after these
  abbrev pub item : List Production → Piece Production
  item before = production scope (room - length before)

  -- it is read exactly as it is spelled
  pub each_law : (before : List Production) → IsExact (item before) always
  each_law before = production_law scope is (room - length before)

  -- it takes a token at least
  pub each_moves : (before : List Production) (p : Production) → (item before).Good p →
      0 < length ((item before).spell p)
  each_moves before p good = production_moves scope is (room - length before) p good

  pub productions_law : IsExact (productions scope room) EndsRule
  unfolding productions
  productions_law =
      repeat_law each_law goes_on each_moves (λ _ _ _. refl) (λ rest h. (h, tt))
      (λ before p rest good. production_goes scope is (room - length before) p rest good) (λ _ _ _ _. tt)

-- ---- rules

pub rule_name_law : (seen : List Rule) → IsExact (rule_name seen) always
unfolding rule_name
rule_name_law seen =
    token_law (rule_name_judge seen) (λ v. v)
    (λ v. IsTrue (is_name v) × (length seen < 16) × (has_name (names_of seen) v ≡ false))
    (λ v x e. elim (chosen (is_name v) _ _ (Ok x) e) [
      | inl name ↦ elim (chosen (nat_le 16 (length seen)) _ _ (Ok x) name.1) [
        | inl full ↦ absurd (let f : ◌≡◌ {A = Result Word Cause} (Err Count) (Ok x) = full.1 in cc)
        | inr free ↦ elim (chosen (has_name (names_of seen) v) _ _ (Ok x) free.1) [
          | inl twice ↦ absurd (let f : ◌≡◌ {A = Result Word Cause} (Err Twice) (Ok x) = twice.1 in cc)
          | inr once ↦
              let same : v ≡ x = (let f : ◌≡◌ {A = Result Word Cause} (Ok v) (Ok x) = once.1 in cc) in (
                same,
                subst (λ (w : Word). IsTrue (is_name w) × (length seen < 16) × (has_name (names_of seen) w ≡ false))
                    same (name.0, leb-false _ _ free.0, once.0),
              )
        ]
      ]
      | inr other ↦ absurd (let f : ◌≡◌ {A = Result Word Cause} (Err Syntax) (Ok x) = other.1 in cc)
    ])
    (λ v good.
    ap
    (λ b. cond b (cond (nat_le 16 (length seen)) (Err Count) (cond (has_name (names_of seen) v) (Err Twice) (Ok v)))
    (Err Syntax))
    good.0
    ∙ ap (λ b. cond b (Err Count) (cond (has_name (names_of seen) v) (Err Twice) (Ok v)))
    (lt-leb 16 (length seen) good.1)
    ∙ ap (λ b. cond b (Err Twice) (Ok v)) good.2)

module _ (scope : Scope) (is : IsScope scope) where
  -- a rule is read exactly as it is spelled, where no further production follows
  pub rule_law : (seen : List Rule) → IsExact (rule scope seen) EndsRule
  unfolding rule
  rule_law seen =
      seen_law rule_of rule_parts
      (keyed_law syntax (codes "rule")
      (then_law (rule_name_law seen) (λ _ _. productions_law scope is (64 - productions_of_rules seen))
      (λ _ _ _ _ _ _. tt)))
      (λ x good. refl) (λ r. refl)

  -- a rule takes a token at least
  pub rule_moves : (seen : List Rule) (r : Rule) → (rule scope seen).Good r → 0 < length ((rule scope seen).spell r)
  unfolding rule
  rule_moves seen r good = omega arith

  rule_begins : (seen : List Rule) (r : Rule) (rest : Words) → (rule scope seen).Good r →
      next_is (codes "rule") ((rule scope seen).spell r ++ rest) ≡ true
  unfolding rule
  rule_begins seen r rest good = refl

  rule_ends : (seen : List Rule) (r : Rule) (rest : Words) → (rule scope seen).Good r →
      EndsRule ((rule scope seen).spell r ++ rest)
  unfolding rule
  rule_ends seen r rest good = refl

  abbrev pub Closes : Words → Type 0
  Closes rest = next_is (codes "end") rest ≡ true

  ends_both : (rest : Words) → Closes rest → (next_is (codes "rule") rest ≡ false) × EndsRule rest
  ends_both [] h = absurd cc
  ends_both (v ∷ vs) h =
      let e = same_bytes v (codes "end") h in (
        ap (λ (w : Word). bytes_eq w (codes "rule")) e,
        ap (λ (w : Word). not (bytes_eq w (codes "rule") || bytes_eq w (codes "end"))) e,
      )

  -- rules are read exactly as they are spelled, up to `end`
  pub rules_law : IsExact (rules scope) Closes
  unfolding rules
  rules_law = repeat_law rule_law (next_is (codes "rule")) rule_moves (λ _ _ _. refl) ends_both rule_begins rule_ends
