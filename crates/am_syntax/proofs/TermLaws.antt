-- A term that is read is spelled so, and a term that is spelled is read.
use Rattle.std.proofs.Common.{◌≡◌, ℕ, zero, suc, ◌+◌, ◌-◌, ◌^◌, ◌<◌, ◌≤◌, Bool, true, false, cond, ◌&&◌, ◌||◌, ◌==◌}
use Rattle.std.proofs.Common.{nat_lt, List, [], ◌∷◌, ◌++◌, length, map, decimal, flat_map, codes, sum_by, Option, Some}
use Rattle.std.proofs.Common.{None, Result, Ok, Err, bytes_eq, ap, subst, ◌∙◌, sym, refl, arith, inl, inr}
use Rattle.std.specs.List.{list_all}
use Rattle.std.proofs.Math.Nat.{le-max_left, le-max_right, max-le}
use Rattle.std.proofs.lemmas.Bool.{and_from, and_parts, eq-eqb, eqb-true, eqb-false, lt-ltb, ltb-true, or_parts, ne_eqb}
use Rattle.std.proofs.lemmas.List.Sums.{sum_by-cons, sum_by-append}
use Rattle.am_text.specs.Tokens.{Left}
use Rattle.am_bv.specs.Operators.{arity}
use Rattle.am_bv.specs.Terms.{fits, nodes}
use Rattle.am_bv.specs.declared.op.Op.{Op}
use Rattle.am_bv.specs.declared.term.Term.{Term}
use Rattle.am_bv.specs.declared.term.Term.TheVariants.{Const, Field, Node}
use Rattle.am_bv.proofs.Laws.{by_induction, fits-Const, fits-Field, fits-Node, nodes-Const, nodes-Field, nodes-Node}
use Rattle.am_syntax.specs.declared.refusal.Cause.{Cause}
use Rattle.am_syntax.specs.declared.refusal.Cause.TheVariants.{Count, Name, Number, Syntax}
use Rattle.am_syntax.specs.declared.limits.TermLimits.{TermLimits}
use Rattle.am_syntax.specs.Names.{op_name, operator}
use Rattle.am_syntax.specs.Numerals.{is_canonical, is_capital, is_digits, is_numeral, number_of}
use Rattle.am_syntax.specs.Pieces.{Piece, closing, count, good_from, spelled_from, times, times_from, token}
use Rattle.am_syntax.specs.Readers.{◌>>=◌, Read, Word, Words, done, judged, onward}
use Rattle.am_syntax.specs.Spelling.{IsScope, IsTermWithin, Scope, greatest, letter_code, nesting, scope_of, term_words}
use Rattle.am_syntax.specs.Terms.{begins_capital, head_judge, leaf_judge, term, term_at, term_within, variable_judge}
use Rattle.am_syntax.specs.Terms.{within}
use Rattle.am_syntax.proofs.Advancing.{term_advances}
use Rattle.am_syntax.proofs.Stopping.{term_alike}
use Rattle.am_syntax.proofs.ListLaws.{times_law}
use Rattle.am_syntax.proofs.NumeralLaws.{decimal-is_canonical, decimal-is_digits, decimal-is_numeral, decimal-number_of}
use Rattle.am_syntax.proofs.NumeralLaws.{decimal_of_number, digits_decimal_of, no_digits}
use Rattle.am_syntax.proofs.PieceLaws.{bind_ok, key_again, key_takes, ok_is, same_bytes, token_law}
use Rattle.am_syntax.specs.Exact.{IsExact, Takes, always}
use Rattle.am_syntax.proofs.Takes.{Takes-halves, Takes-then}
use Rattle.am_syntax.proofs.TermSteps.{within_none, argument, after_operator, close_node, head_some, term_leaf}
use Rattle.am_syntax.proofs.TermSteps.{term_node}
use Rattle.am_syntax.proofs.TermSteps.{term_refused}
use Rattle.am_syntax.proofs.TermWords.{closed_op, digits_apart, letter_capital, letter_closes, letter_digit}
use Rattle.am_syntax.proofs.TermWords.{letter_opens, narrow, nesting-Const, nesting-Field, nesting-Node, opened_op}
use Rattle.am_syntax.proofs.TermWords.{words-Const, words-Field, words-Node}
use Rattle.am_syntax.proofs.TokenLaws.{chosen, cond_ok, operator_law}

-- ---- the first token

record IsLeaf (scope : Scope) (v : Word) (t : Term) : Type 0 where
  spelled : v ∷ [] ≡ term_words (letter_code scope.letter) t
  fit : fits scope.width scope.variables t ≡ true
  one : nodes t ≡ 1
  flat : nesting t ≡ 0
  judged : leaf_judge scope v ≡ Ok t
  opens : bytes_eq v (codes "(") ≡ false
  closes : bytes_eq v (codes ")") ≡ false

positive : (n : ℕ) → (n == 0) ≡ false → 0 < n
positive n h = let other : n ≡ 0 → ⊥ = eqb-false n 0 h in omega arith

abbrev first_word : Words → Word
first_word [] = []
first_word (v ∷ vs) = v

module _ (scope : Scope) (is : IsScope scope) where
  abbrev code : ℕ
  code = letter_code scope.letter

  const_leaf : (c : ℕ) → c < 2 ^ scope.width → IsLeaf scope (decimal c) (Const c)
  const_leaf c below =
      let small = narrow scope.width c is.width below in
      let digits = decimal-is_digits c small in
      record {
        spelled = sym (words-Const code c);
        fit = fits-Const scope.width scope.variables c ∙ lt-ltb _ _ below;
        one = nodes-Const c;
        flat = nesting-Const c;
        judged =
            ap (λ b. cond b (cond (is_canonical (decimal c) && nat_lt (number_of (decimal c)) (2 ^ scope.width))
            (Ok (Const (number_of (decimal c)))) (Err Number))
            (cond (begins_capital (decimal c)) (Err Syntax) (variable_judge scope (decimal c)))) digits
            ∙ ap (λ b. cond b (Ok (Const (number_of (decimal c)))) (Err Number))
            (and_from _ _ (decimal-is_canonical c small) (ap (λ n. nat_lt n (2 ^ scope.width))
            (decimal-number_of c small) ∙ lt-ltb _ _ below))
            ∙ ap (λ n. Ok (Const n)) (decimal-number_of c small);
        opens = digits_apart (decimal c) (codes "(") digits refl;
        closes = digits_apart (decimal c) (codes ")") digits refl;
      }

  field_leaf : (i : ℕ) → i < scope.variables → IsLeaf scope (code ∷ decimal i) (Field i)
  field_leaf i below =
      let small : i < 2 ^ 64 = omega (arith, is.variables) in
      let number = decimal-number_of i small in
      let letter : (code == code) ≡ true = eq-eqb code code refl in
      let test : ((code == code) && is_numeral (decimal i) && nat_lt (number_of (decimal i)) scope.variables) ≡ true =
      and_from _ _ (and_from _ _ letter (decimal-is_numeral i small))
      (ap (λ n. nat_lt n scope.variables) number ∙ lt-ltb _ _ below) in
      record {
        spelled = sym (words-Field code i);
        fit = fits-Field scope.width scope.variables i ∙ lt-ltb _ _ below;
        one = nodes-Field i;
        flat = nesting-Field i;
        judged =
            ap (λ b. cond b (cond (is_canonical (code ∷ decimal i) && nat_lt (number_of (code ∷ decimal i))
            (2 ^ scope.width)) (Ok (Const (number_of (code ∷ decimal i)))) (Err Number))
            (cond (is_capital code) (Err Syntax) (variable_judge scope (code ∷ decimal i))))
            (no_digits code (decimal i) (letter_digit scope.letter))
            ∙ ap (λ b. cond b (Err Syntax) (variable_judge scope (code ∷ decimal i))) (letter_capital scope.letter)
            ∙ ap (λ b. cond b (Ok (Field (number_of (decimal i)))) (Err Name)) test
            ∙ ap (λ n. Ok (Field n)) number;
        opens = letter_opens scope.letter (decimal i);
        closes = letter_closes scope.letter (decimal i);
      }

  variable_takes : (v : Word) (t : Term) → variable_judge scope v ≡ Ok t → IsLeaf scope v t
  variable_takes [] t e = absurd cc
  variable_takes (b ∷ bs) t e =
      let given = cond_ok _ (Field (number_of bs)) Name t e in
      let tests = and_parts _ _ given.0 in
      let front = and_parts _ _ tests.0 in
      let below = ltb-true _ _ tests.1 in
      let text : b ∷ bs ≡ code ∷ decimal (number_of bs) =
      ap (λ (l : ℕ). l ∷ bs) (eqb-true b code front.0)
      ∙ ap (λ (w : Word). code ∷ w) (decimal_of_number bs front.1 (omega (arith, is.variables))) in
      subst (IsLeaf scope (b ∷ bs)) given.1 (subst (λ (w : Word). IsLeaf scope w (Field (number_of bs))) (sym text)
      (field_leaf (number_of bs) below))

  leaf_takes : (v : Word) (t : Term) → leaf_judge scope v ≡ Ok t → IsLeaf scope v t
  leaf_takes v t e =
      elim (chosen (is_digits v) _ _ (Ok t) e) [
        | inl digits ↦
            let given = cond_ok _ (Const (number_of v)) Number t digits.1 in
            let tests = and_parts _ _ given.0 in
            let below = ltb-true _ _ tests.1 in
            let text : v ≡ decimal (number_of v) =
            digits_decimal_of v digits.0 tests.0 (narrow scope.width (number_of v) is.width below) in
            subst (IsLeaf scope v) given.1 (subst (λ (w : Word). IsLeaf scope w (Const (number_of v))) (sym text)
            (const_leaf (number_of v) below))
        | inr other ↦ elim (chosen (begins_capital v) (Err Syntax) (variable_judge scope v) (Ok t) other.1) [
          | inl capital ↦ absurd (let f : ◌≡◌ {A = Result Term Cause} (Err Syntax) (Ok t) = capital.1 in cc)
          | inr small ↦ variable_takes v t small.1
        ]
      ]

  -- ---- the first token as a piece

  abbrev head_word : Option Term → Word
  head_word None = codes "("
  head_word (Some t) = first_word (term_words code t)

  abbrev HeadGood : ℕ → ℕ → Option Term → Type 0
  HeadGood depth room None = (0 < room) × (0 < depth)
  HeadGood depth room (Some t) = (0 < room) × IsLeaf scope (first_word (term_words code t)) t

  head_to : (inside : Bool) (depth room : ℕ) (v : Word) (h : Option Term) →
      head_judge scope inside depth room v ≡ Ok h → (v ≡ head_word h) × HeadGood depth room h
  head_to inside depth room v (Some t) e =
      let some = head_some scope inside depth room v t e in
      let leaf = leaf_takes v t some.0 in
      let text : v ≡ first_word (term_words code t) = ap first_word leaf.spelled in
      (text, (some.1, subst (λ (w : Word). IsLeaf scope w t) text leaf))
  head_to inside depth room v None e =
      elim (chosen (bytes_eq v (codes "(")) _ _ (Ok None) e) [
        | inl opens ↦ elim (chosen (room == 0 || depth == 0) (Err Count) (Ok None) (Ok None) opens.1) [
          | inl full ↦ absurd (let f : ◌≡◌ {A = Result (Option Term) Cause} (Err Count) (Ok None) = full.1 in cc)
          | inr free ↦
              let tests = or_parts _ _ free.0 in
              (same_bytes v (codes "(") opens.0, (positive room tests.0, positive depth tests.1))
        ]
        | inr other ↦ elim (chosen (bytes_eq v (codes ")")) (Err (cond inside Count Syntax))
            (within room (leaf_judge scope v)) (Ok None) other.1) [
              | inl closes ↦ absurd (let f : ◌≡◌ {A = Result (Option Term) Cause} (Err (cond inside Count Syntax))
                  (Ok None) = closes.1 in cc)
              | inr leaf ↦ absurd (within_none room (leaf_judge scope v) leaf.1)
            ]
      ]

  head_back : (inside : Bool) (depth room : ℕ) (h : Option Term) → HeadGood depth room h →
      head_judge scope inside depth room (head_word h) ≡ Ok h
  head_back inside depth room None good =
      ap (λ b. cond b (Err Count) (Ok None)) (ap (λ b. b || (depth == 0)) (ne_eqb room 0 (λ e. omega (arith, good.0)))
      ∙ ne_eqb depth 0 (λ e. omega (arith, good.1)))
  head_back inside depth room (Some t) good =
      let v = first_word (term_words code t) in
      ap (λ b. cond b (cond (room == 0 || depth == 0) (Err Count) (Ok None)) (cond (bytes_eq v (codes ")"))
      (Err (cond inside Count Syntax)) (within room (leaf_judge scope v)))) good.1.opens
      ∙ ap (λ b. cond b (Err (cond inside Count Syntax)) (within room (leaf_judge scope v))) good.1.closes
      ∙ ap (within room) good.1.judged
      ∙ ap (λ b. cond b (Err Count) (Ok (Some t))) (ne_eqb room 0 (λ e. omega (arith, good.0)))

  abbrev head : Bool → ℕ → ℕ → Piece (Option Term)
  head inside depth room = token (head_judge scope inside depth room) head_word (HeadGood depth room)

  head_law : (inside : Bool) (depth room : ℕ) → IsExact (head inside depth room) always
  head_law inside depth room =
      token_law (head_judge scope inside depth room) head_word (HeadGood depth room) (head_to inside depth room)
      (head_back inside depth room)

  -- ---- arguments

  -- the arguments of an operator, of so many nodes together
  abbrev arg : ℕ → ℕ → List Term → Piece Term
  arg depth room seen = term_within scope true depth (room - sum_by nodes seen)

  flat : (depth room : ℕ) (seen ts : List Term) → spelled_from (arg depth room) seen ts ≡ flat_map (term_words code) ts
  flat depth room seen [] = refl
  flat depth room seen (t ∷ ts) = ap (λ (ws : Words). term_words code t ++ ws) (flat depth room (seen ++ t ∷ []) ts)

  -- what is known of arguments that are good one by one
  record AreGood (depth room : ℕ) (seen ts : List Term) : Type 0 where
    fit : list_all (fits scope.width scope.variables) ts ≡ true
    few : sum_by nodes seen + sum_by nodes ts ≤ room
    low : greatest (map nesting ts) ≤ depth

  more : (seen : List Term) (t : Term) → sum_by nodes (seen ++ t ∷ []) ≡ sum_by nodes seen + nodes t
  more seen t = omega (arith, sum_by-append nodes seen (t ∷ []), sum_by-cons nodes t [])

  are_good : (depth room : ℕ) (seen ts : List Term) → sum_by nodes seen ≤ room → good_from (arg depth room) seen ts →
      AreGood depth room seen ts
  are_good depth room seen [] h good = record { fit = refl; few = omega arith; low = omega arith }
  are_good depth room seen (t ∷ ts) h good =
      let one = good.0 in
      let within : sum_by nodes (seen ++ t ∷ []) ≤ room = omega (arith, more seen t, one.few) in
      let others = are_good depth room (seen ++ t ∷ []) ts within good.1 in
      record {
        fit = and_from _ _ one.fit others.fit;
        few = omega (arith, others.few, more seen t, sum_by-cons nodes t ts);
        low = max-le one.flat others.low;
      }

  good_each : (depth room : ℕ) (seen ts : List Term) → AreGood depth room seen ts → good_from (arg depth room) seen ts
  good_each depth room seen [] are = tt
  good_each depth room seen (t ∷ ts) are =
      let fit =
      and_parts (fits scope.width scope.variables t) (list_all (fits scope.width scope.variables) ts) are.fit in
      let here = le-max_left (nesting t) (greatest (map nesting ts)) in
      let there = le-max_right (nesting t) (greatest (map nesting ts)) in (
        record {
          fit = fit.0;
          few = omega (arith, are.few, sum_by-cons nodes t ts);
          flat = omega (arith, here, are.low);
        },
        good_each depth room (seen ++ t ∷ []) ts (record {
          fit = fit.1;
          few = omega (arith, are.few, more seen t, sum_by-cons nodes t ts);
          low = omega (arith, there, are.low);
        }),
      )

  -- ---- an operator and its arguments

  abbrev words_of_node : Op → List Term → Words
  words_of_node op ts = op_name op ∷ (flat_map (term_words code) ts ++ codes ")" ∷ [])

  abbrev Law : ℕ → Type 0
  Law depth = (room : ℕ) → IsExact (term_within scope true depth room) always

  args_law : (depth room : ℕ) → Law depth → (op : Op) → IsExact (times (arg depth room) (arity op)) always
  args_law depth room law op = times_law (λ seen. law (room - sum_by nodes seen)) (λ seen x rest good. tt) (arity op)

  record Noded (depth room : ℕ) (left : Left) (t : Term) (u : Left) : Type 0 where
    op : Op
    ts : List Term
    node : Node op ts ≡ t
    taken : Takes left (words_of_node op ts) u
    count : length ts ≡ arity op
    good : AreGood depth room [] ts

  node_takes : (depth room : ℕ) → Law depth → (left : Left) (t : Term) (u : Left) →
      (operator.read >>= after_operator (argument scope depth room)) left ≡ Ok (t, u) → Noded depth room left t u
  node_takes depth room law left t u e =
      let f = bind_ok (operator.read left) (after_operator (argument scope depth room)) (t, u) e in
      let op = f.0.0 in
      let g = bind_ok (times_from (argument scope depth room) (arity op) [] f.0.1) (close_node op) (t, u) f.2 in
      let ts = g.0.0 in
      let h = bind_ok (closing.read g.0.1) (λ _. done (Node op ts)) (t, u) g.2 in
      let name = operator_law.takes left op f.0.1 f.1 in
      let all = (args_law depth room law op).takes f.0.1 ts g.0.1 g.1 in
      let close = key_takes count (codes ")") g.0.1 h.0.1 h.1 in
      let made : Term × Left = (Node op ts, h.0.1) in
      let same = ok_is made (t, u) h.2 in
      record {
        op = op;
        ts = ts;
        node = ap (λ (p : Term × Left). p.0) same;
        taken = subst (Takes left (words_of_node op ts)) (ap (λ (p : Term × Left). p.1) same)
            (Takes-then left (op_name op ∷ []) f.0.1 (flat_map (term_words code) ts ++ codes ")" ∷ []) h.0.1
            (opened_op op left f.0.1 name.0)
            (Takes-then f.0.1 (flat_map (term_words code) ts) g.0.1 (codes ")" ∷ []) h.0.1
            (subst (λ (ws : Words). Takes f.0.1 ws g.0.1) (flat depth room [] ts) all.0) close));
        count = all.1.0;
        good = are_good depth room [] ts (omega arith) all.1.1;
      }

  node_again : (depth room : ℕ) → Law depth → (op : Op) (ts : List Term) (left u : Left) → length ts ≡ arity op →
      AreGood depth room [] ts → Takes left (words_of_node op ts) u →
      (operator.read >>= after_operator (argument scope depth room)) left ≡ Ok (Node op ts, u)
  unfolding operator
  node_again depth room law op ts left u count_is good taken =
      let h = Takes-halves left (op_name op ∷ []) (flat_map (term_words code) ts ++ codes ")" ∷ []) u taken in
      let k = Takes-halves h.between (flat_map (term_words code) ts) (codes ")" ∷ []) u h.second in
      ap (onward (after_operator (argument scope depth room)))
      (operator_law.again left op h.between tt (closed_op op left h.between h.first) tt)
      ∙ ap (onward (close_node op)) ((args_law depth room law op).again h.between ts k.between
      (count_is, good_each depth room [] ts good) (subst (λ (ws : Words). Takes h.between ws k.between)
      (sym (flat depth room [] ts)) k.first) tt)
      ∙ ap (onward (λ _. done (Node op ts))) (key_again count (codes ")") k.between u k.second)

  -- ---- terms

  term_takes : (inside : Bool) (depth room : ℕ) → (0 < depth → Law (depth - 1)) → (s : Left) (t : Term) (u : Left) →
      (r : Read (Option Term)) → judged (head_judge scope inside depth room) s ≡ r →
      term_at scope inside depth room s ≡ Ok (t, u) → Takes s (term_words code t) u × IsTermWithin scope depth room t
  term_takes inside depth room law s t u (Err stop) j e =
      absurd (let f : ◌≡◌ {A = Read Term} (Err stop) (Ok (t, u)) = sym (term_refused scope inside depth room s stop j)
      ∙ e in cc)
  term_takes inside depth room law s t u (Ok (Some l, left)) j e =
      let first = (head_law inside depth room).takes s (Some l) left j in
      let leaf = first.1.1 in
      let made : Term × Left = (l, left) in
      subst (λ (p : Term × Left). Takes s (term_words code p.0) p.1 × IsTermWithin scope depth room p.0)
      (ok_is made (t, u) (sym (term_leaf scope inside depth room s l left j) ∙ e)) (
        subst (λ (ws : Words). Takes s ws left) leaf.spelled first.0,
        record { fit = leaf.fit; few = omega (arith, leaf.one, first.1.0); flat = omega (arith, leaf.flat) },
      )
  term_takes inside depth room law s t u (Ok (None, left)) j e =
      let first = (head_law inside depth room).takes s None left j in
      let deep : 0 < depth = first.1.1 in
      let n =
      node_takes (depth - 1) (room - 1) (law deep) left t u
      (sym (term_node scope inside depth room s left deep j) ∙ e) in
      subst (λ (t : Term). Takes s (term_words code t) u × IsTermWithin scope depth room t) n.node (
        subst (λ (ws : Words). Takes s ws u) (sym (words-Node code n.op n.ts))
            (Takes-then s (codes "(" ∷ []) left (words_of_node n.op n.ts) u first.0 n.taken),
        record {
          fit = fits-Node scope.width scope.variables n.op n.ts ∙ and_from _ _ (eq-eqb _ _ n.count) n.good.fit;
          few = omega (arith, nodes-Node n.op n.ts, n.good.few, first.1.0);
          flat = omega (arith, nesting-Node n.op n.ts, n.good.low, deep);
        },
      )

  leaf_again : (inside : Bool) (depth room : ℕ) (s : Left) (t : Term) (u : Left) (v : Word) → IsLeaf scope v t →
      IsTermWithin scope depth room t → Takes s (term_words code t) u → term_at scope inside depth room s ≡ Ok (t, u)
  leaf_again inside depth room s t u v leaf good taken =
      let text : v ≡ first_word (term_words code t) = ap first_word leaf.spelled in
      let one : Takes s (head_word (Some t) ∷ []) u =
      subst (λ (ws : Words). Takes s ws u) (sym leaf.spelled ∙ ap (λ (w : Word). w ∷ []) text) taken in
      term_leaf scope inside depth room s t u
      ((head_law inside depth room).again s (Some t) u
      (omega (arith, leaf.one, good.few), subst (λ (w : Word). IsLeaf scope w t) text leaf) one tt)

  abbrev Again : Bool → ℕ → ℕ → Term → Type 0
  Again inside depth room t =
      (s u : Left) → IsTermWithin scope depth room t → Takes s (term_words code t) u →
      term_at scope inside depth room s ≡ Ok (t, u)

  term_again : (inside : Bool) (depth room : ℕ) → (0 < depth → Law (depth - 1)) → (t : Term) → Again inside depth room t
  term_again inside depth room law t = by_induction (Again inside depth room) (record {
    const =
        λ c s u good taken. leaf_again inside depth room s (Const c) u (decimal c)
        (const_leaf c (ltb-true _ _ (sym (fits-Const scope.width scope.variables c) ∙ good.fit))) good taken;
    field =
        λ i s u good taken. leaf_again inside depth room s (Field i) u (code ∷ decimal i)
        (field_leaf i (ltb-true _ _ (sym (fits-Field scope.width scope.variables i) ∙ good.fit))) good taken;
    node = λ op ts h s u good taken.
        let nested = nesting-Node op ts in
        let nodes_are = nodes-Node op ts in
        let deep : 0 < depth = omega (arith, good.flat, nested) in
        let some : 0 < room = omega (arith, good.few, nodes_are) in
        let fit =
        and_parts (length ts == arity op) (list_all (fits scope.width scope.variables) ts)
        (sym (fits-Node scope.width scope.variables op ts) ∙ good.fit) in
        let k =
        Takes-halves s (codes "(" ∷ []) (words_of_node op ts) u
        (subst (λ (ws : Words). Takes s ws u) (words-Node code op ts) taken) in
        let first = (head_law inside depth room).again s None k.between (some, deep) k.first tt in
        term_node scope inside depth room s k.between deep first
        ∙ node_again (depth - 1) (room - 1) (law deep) op ts k.between u (eqb-true _ _ fit.0)
        (record { fit = fit.1; few = omega (arith, good.few, nodes_are); low = omega (arith, good.flat, nested) })
        k.second;
  }) t

  law_by : (inside : Bool) (depth room : ℕ) → (0 < depth → Law (depth - 1)) →
      IsExact (term_within scope inside depth room) always
  law_by inside depth room law = record {
    takes = λ s t u e. term_takes inside depth room law s t u (judged (head_judge scope inside depth room) s) refl e;
    again = λ s t u good taken may. term_again inside depth room law t s u good taken;
    advances = term_advances scope inside depth room;
    no_further = term_alike scope inside depth room;
  }

  inner : (depth : ℕ) → Law depth
  inner zero room = law_by true 0 room (λ deep. absurd (omega arith))
  inner (suc depth) room =
      law_by true (suc depth) room (λ deep. subst Law (let e : depth ≡ suc depth - 1 = omega arith in e) (inner depth))

  -- a term is read exactly where one within the limits is spelled, alone or as an argument
  pub term_within_law : (inside : Bool) (depth room : ℕ) → IsExact (term_within scope inside depth room) always
  term_within_law inside depth room = law_by inside depth room (λ deep. inner (depth - 1))

-- a term within limits
pub term_law : (w : ℕ) (limits : TermLimits) → IsScope (scope_of w limits) → IsExact (term w limits) always
term_law w limits is = term_within_law (scope_of w limits) is false limits.nesting limits.nodes
