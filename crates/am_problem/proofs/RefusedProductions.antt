-- A production that is refused at a token is refused whatever follows it, although the first three tokens tell whether
-- it is an operator's at nonterminals or a leaf.
use Rattle.std.proofs.Common.{◌≡◌, ℕ, zero, suc, ◌-◌, ◌<◌, Bool, true, false, cond, ◌==◌, nat_lt, List, [], ◌∷◌, codes}
use Rattle.std.proofs.Common.{drop}
use Rattle.std.proofs.Common.{length, map, sum_by, take, Option, Some, None, Result, Ok, Err, refl, ap, sym, subst, ◌∙◌}
use Rattle.std.proofs.Common.{arith, inl, inr}
use Rattle.std.specs.Prelude.{◌⊎◌, is_some}
use Rattle.std.proofs.lemmas.Bool.{and_parts, cases_Bool, eqb-false, eqb-true, lt-ltb, ne_eqb}
use Rattle.std.proofs.lemmas.List.{length-map}
use Rattle.am_bv.specs.Operators.{arity}
use Rattle.am_bv.specs.Terms.{nodes}
use Rattle.am_bv.specs.declared.op.Op.{Op}
use Rattle.am_bv.specs.declared.term.Term.{Term}
use Rattle.am_text.specs.Tokens.{Left, Placed, words}
use Rattle.am_syntax.specs.declared.refusal.Cause.{Cause}
use Rattle.am_syntax.specs.declared.refusal.Cause.TheVariants.{Count}
use Rattle.am_syntax.specs.Exact.{IsExact, always}
use Rattle.am_syntax.specs.Names.{is_op_name, named, op_named, operator}
use Rattle.am_syntax.specs.Pieces.{◌▹◌, Piece, choice, closed_or, count, key, key_judge, key_or, syntax, times}
use Rattle.am_syntax.specs.Pieces.{too_early}
use Rattle.am_syntax.specs.Readers.{◌>>=◌, Advances, LooksNoFurther, Read, Reader, Word, Words, done, judged, leaving}
use Rattle.am_syntax.specs.Readers.{left_after}
use Rattle.am_syntax.specs.Readers.{left_by, settled}
use Rattle.am_syntax.specs.Spelling.{Scope}
use Rattle.am_syntax.specs.Terms.{head_judge, node_by, term_at}
use Rattle.am_syntax.proofs.Laws.{TakesAtLeast, args_advances, argument, after_operator, closed_law, name_law}
use Rattle.am_syntax.proofs.Laws.{node_advances}
use Rattle.am_syntax.proofs.Laws.{operator_law, picked_alike}
use Rattle.am_syntax.proofs.Laws.{reached_here, same_bytes, seen_advances, seen_alike, stops_late, takes_any}
use Rattle.am_syntax.proofs.Laws.{takes_later}
use Rattle.am_syntax.proofs.Laws.{takes_next, takes_then, term_advances, term_node, term_refused, then_law, times_law}
use Rattle.am_problem.specs.Grammar.{leaf_production, name_before, node_production, opening, opens_names}

-- what is left from a token on
abbrev from_token : Placed → List Placed → ℕ → Left
from_token t ts end = record { tokens = t ∷ ts; end = end }

-- ---- the names of a production

-- the nonterminals at which an operator stands, and the parenthesis after them
abbrev pub names_after : Op → Piece (List Word)
names_after op = closed_or count (codes ")") (times (λ _. name_before (codes ")")) (arity op))

-- they are read exactly where they are spelled
pub names_law : (op : Op) → IsExact (names_after op) always
names_law op =
    closed_law count (codes ")") (times_law (λ seen. name_law (too_early (codes ")"))) (λ _ _ _ _. tt) (arity op))
    (λ _. tt)

-- an operator and its nonterminals are read exactly where they are spelled
pub applied_law : IsExact (operator ▹ names_after) always
applied_law = then_law operator_law (λ op _. names_law op) (λ _ _ _ _ _ _. tt)

-- ---- after an opening parenthesis

named_op : (o : Option Op) → is_some o ≡ true → (op : Op) × (o ≡ Some op)
named_op (Some op) h = (op, refl)
named_op None h = absurd cc

operator_read : (b : Placed) (ts : List Placed) (end : ℕ) (op : Op) → op_named b.word ≡ Some op →
    operator.read (record { tokens = b ∷ ts; end = end }) ≡ Ok (op, record { tokens = ts; end = end })
unfolding operator judged
operator_read b ts end op e = ap (λ (o : Option Op). settled b ts end (named o b.word)) e

module _ (scope : Scope) (room : ℕ) (node : IsExact (node_production room) always)
    (leaf : IsExact (leaf_production scope room) always) where
  abbrev Made : Type 0
  Made = (Unit {0} × (Op × List Word)) ⊎ Term

  abbrev node_read : Reader Made
  node_read = (node_production room).read >>= λ x. done (inl x)

  abbrev leaf_read : Reader Made
  leaf_read = (leaf_production scope room).read >>= λ t. done (inr t)

  abbrev pair_applied : Unit {0} → Reader (Unit {0} × (Op × List Word))
  pair_applied u = (operator ▹ names_after).read >>= λ y. done (u, y)

  pair_advances : (s : Left) → TakesAtLeast 0 s (left_by (pair_applied tt s))
  pair_advances = takes_any (pair_applied tt)
      (seen_advances (operator ▹ names_after).read (λ y. (tt, y)) applied_law.advances)

  abbrev leaf_argument : List Term → Reader Term
  leaf_argument = argument scope (64 - 1) (64 - 1)

  -- what a leaf is read by after its parenthesis
  abbrev node_rest : Reader Term
  node_rest = node_by leaf_argument None

  rest_advances : (s : Left) → TakesAtLeast 0 s (left_by (node_rest s))
  rest_advances = takes_any node_rest
      (node_advances leaf_argument (λ seen. term_advances scope true (64 - 1) (64 - 1 - sum_by nodes seen)) None)

  module _ (t : Placed) (ts : List Placed) (end : ℕ) (opens : t.word ≡ codes "(") where
    abbrev here : Left
    here = from_token t ts end

    abbrev inside : Left
    inside = record { tokens = ts; end = end }

    abbrev full : Read Made
    full = Err (Count, here)

    -- no production is left for
    opening_full : room ≡ 0 → (opening room).read here ≡ Err (Count, here)
    unfolding judged
    opening_full none =
        ap (λ (r : ℕ). cond (nat_lt 0 r) ((key (codes "(")).read here) (judged (λ _. Err Count) here)) none

    opening_free : 0 < room → (opening room).read here ≡ Ok (tt, inside)
    unfolding key_or judged
    opening_free some =
        ap (λ b. cond b ((key (codes "(")).read here) (judged (λ _. Err Count) here)) (lt-ltb 0 room some)
        ∙ ap (λ (v : Word). settled t ts end (key_judge syntax (codes "(") v)) opens

    node_full : room ≡ 0 → node_read here ≡ full
    unfolding node_production
    node_full none = rw (opening_full none) refl

    head_full : judged (head_judge scope false 64 0) here ≡ Err (Count, here)
    unfolding judged
    head_full = ap (λ (v : Word). settled t ts end (head_judge scope false 64 0 v)) opens

    leaf_full : room ≡ 0 → leaf_read here ≡ full
    leaf_full none =
        rw (
        ap (λ (r : ℕ). term_at scope false 64 (cond (r == 0) 0 64) here) none
        ∙ term_refused scope false 64 0 here (Count, here) head_full
        ) refl

    -- each way of reading is refused at the parenthesis
    both_full : room ≡ 0 → (b : Bool) → cond b (node_read here) (leaf_read here) ≡ full
    both_full none true = node_full none
    both_full none false = leaf_full none

    head_free : judged (head_judge scope false 64 64) here ≡ Ok (None, inside)
    unfolding judged
    head_free = ap (λ (v : Word). settled t ts end (head_judge scope false 64 64 v)) opens

    leaf_free : 0 < room → (n : ℕ) → TakesAtLeast n inside (left_by (node_rest inside)) →
        TakesAtLeast (suc n) here (left_by ((leaf_production scope room).read here))
    leaf_free some n rest =
        subst (λ (r : Read Term). TakesAtLeast (suc n) here (left_by r))
        (sym (
        ap (λ b. term_at scope false 64 (cond b 0 64) here) (ne_eqb room 0 (λ e. omega (arith, some)))
        ∙ term_node scope false 64 64 here inside (omega arith) head_free
        ))
        (takes_later n here inside (left_by (node_rest inside)) refl rest)

    -- else each takes the parenthesis at least
    one_taken : 0 < room → (b : Bool) → TakesAtLeast 1 here (left_by (cond b (node_read here) (leaf_read here)))
    unfolding node_production
    one_taken some true =
        takes_then 1 (node_production room).read (λ x. done (inl x)) here node.advances (λ x. reached_here)
        (takes_next 0 (opening room).read pair_applied here inside tt (opening_free some) refl (pair_advances inside))
    one_taken some false =
        takes_then 1 (leaf_production scope room).read (λ u. done (inr u)) here leaf.advances (λ u. reached_here)
        (leaf_free some 0 (rest_advances inside))

  abbrev either_read : Bool → Reader Made
  either_read c s = cond c (node_read s) (leaf_read s)

  argument_advances : (seen : List Term) → Advances (leaf_argument seen)
  argument_advances seen = term_advances scope true (64 - 1) (64 - 1 - sum_by nodes seen)

  -- and the operator after it
  two_taken : 0 < room → (t b : Placed) (ts : List Placed) (end : ℕ) → t.word ≡ codes "(" → (op : Op) →
      op_named b.word ≡ Some op → (c : Bool) →
      TakesAtLeast 2 (from_token t (b ∷ ts) end) (left_by (either_read c (from_token t (b ∷ ts) end)))
  unfolding node_production
  two_taken some t b ts end opens op is true =
      let s = from_token t (b ∷ ts) end in
      let one = from_token b ts end in
      let two : Left = record { tokens = ts; end = end } in
      takes_then 2 (node_production room).read (λ x. done (inl x)) s node.advances (λ x. reached_here)
      (takes_next 1 (opening room).read pair_applied s one tt (opening_free t (b ∷ ts) end opens some) refl
      (takes_then 1 (operator ▹ names_after).read (λ y. done (tt, y)) one applied_law.advances (λ y. reached_here)
      (takes_next 0 operator.read (λ op. (names_after op).read >>= λ names. done (op, names)) one two op
      (operator_read b ts end op is) refl
      (takes_any ((names_after op).read >>= λ names. done (op, names))
      (seen_advances (names_after op).read (λ names. (op, names)) (names_law op).advances) two))))
  two_taken some t b ts end opens op is false =
      let two : Left = record { tokens = ts; end = end } in
      takes_then 2 (leaf_production scope room).read (λ u. done (inr u)) (from_token t (b ∷ ts) end) leaf.advances
      (λ u. reached_here)
      (leaf_free t (b ∷ ts) end opens some 1
      (takes_next 0 operator.read (after_operator leaf_argument) (from_token b ts end) two op
      (operator_read b ts end op is)
      refl
      (takes_any (after_operator leaf_argument op) (args_advances leaf_argument argument_advances op) two)))

  -- ---- where the tests differ

  abbrev words_in_tokens : List Placed → Words
  words_in_tokens ts = map (λ (t : Placed). t.word) ts

  -- a list that opens names begins with a parenthesis and an operator's name
  opens_first : (w : Word) (ws : Words) → opens_names (w ∷ ws) ≡ true → w ≡ codes "("
  opens_first w [] h = absurd cc
  opens_first w (v ∷ []) h = absurd cc
  opens_first w (v ∷ x ∷ ws) h = same_bytes w (codes "(") (and_parts _ _ (and_parts _ _ h).0).0

  opens_second : (w v : Word) (ws : Words) → opens_names (w ∷ v ∷ ws) ≡ true → is_op_name v ≡ true
  opens_second w v [] h = absurd cc
  opens_second w v (x ∷ ws) h = (and_parts _ _ (and_parts _ _ h).0).1

  -- three words tell
  three_tell : (k : ℕ) (a b : Words) → suc (suc k) < length b →
      take (suc (suc (suc k))) a ≡ take (suc (suc (suc k))) b → opens_names a ≡ opens_names b
  three_tell k a [] some same = absurd (omega arith)
  three_tell k a (v ∷ []) some same = absurd (omega arith)
  three_tell k a (v ∷ w ∷ []) some same = absurd (omega arith)
  three_tell k [] (v ∷ w ∷ x ∷ b) some same = absurd cc
  three_tell k (p ∷ []) (v ∷ w ∷ x ∷ b) some same = absurd cc
  three_tell k (p ∷ q ∷ []) (v ∷ w ∷ x ∷ b) some same = absurd cc
  three_tell k (p ∷ q ∷ r ∷ a) (v ∷ w ∷ x ∷ b) some same =
      let one : p ≡ v = cc in
      let two : q ≡ w = cc in
      let three : r ≡ x = cc in
      rw (one, two, three) refl

  -- at the first token the production is refused, for there is no room
  at_first : (t v : Placed) (ts us : List Placed) (end other : ℕ) → t.word ≡ codes "(" → v.word ≡ codes "(" →
      (b c : Bool) → (left_by (either_read b (from_token t ts end))).tokens ≡ t ∷ ts →
      either_read c (from_token v us other)
      ≡ leaving (either_read b (from_token t ts end)) (left_after 0 (from_token v us other))
  at_first t v ts us end other opens too b c stops = elim (cases_Bool (room == 0)) [
    | inl none ↦
        let e = eqb-true room 0 none in
        both_full v us other too e c
        ∙ ap (λ (r : Read Made). leaving r (left_after 0 (from_token v us other)))
        (sym (both_full t ts end opens e b))
    | inr some ↦
        let other : room ≡ 0 → ⊥ = eqb-false room 0 some in
        absurd (omega (
          arith,
          stops_late 1 (from_token t ts end) (left_by (either_read b (from_token t ts end))) 0
              (one_taken t ts end opens (omega (arith, other)) b) (omega arith) stops,
        ))
  ]

  -- at the second one, an operator's name, it isn't
  not_second : (t s : Placed) (ts : List Placed) (end : ℕ) → t.word ≡ codes "(" → is_op_name s.word ≡ true →
      (b : Bool) →
      (left_by (either_read b (from_token t (s ∷ ts) end))).tokens ≡ s ∷ ts → ⊥
  not_second t s ts end opens op b stops = elim (cases_Bool (room == 0)) [
    | inl none ↦
        let e = both_full t (s ∷ ts) end opens (eqb-true room 0 none) b in
        let all : t ∷ s ∷ ts ≡ s ∷ ts = sym (ap (λ (r : Read Made). (left_by r).tokens) e) ∙ stops in
        omega (arith, ap length all)
    | inr some ↦
        let other : room ≡ 0 → ⊥ = eqb-false room 0 some in
        let name = named_op (op_named s.word) op in
        omega (
          arith,
          stops_late 2 (from_token t (s ∷ ts) end) (left_by (either_read b (from_token t (s ∷ ts) end))) 1
              (two_taken (omega (arith, other)) t s ts end opens name.0 name.1 b) (omega arith) stops,
        )
  ]

  node_alike : LooksNoFurther node_read
  node_alike = seen_alike (node_production room).read inl node.no_further node.advances

  leaf_alike : LooksNoFurther leaf_read
  leaf_alike = seen_alike (leaf_production scope room).read inr leaf.no_further leaf.advances

  -- where the first words are the same, which test says what makes no difference to a reader that stops there
  differ : (t : Placed) (ts : List Placed) (v : Placed) (us : List Placed) (end other at : ℕ) → at < length (t ∷ ts) →
      take (suc at) (words_in_tokens (v ∷ us)) ≡ take (suc at) (words_in_tokens (t ∷ ts)) → (b c : Bool) →
      (opens_names (words_in_tokens (t ∷ ts)) ≡ true) ⊎ (opens_names (words_in_tokens (v ∷ us)) ≡ true) →
      (opens_names (words_in_tokens (v ∷ us)) ≡ opens_names (words_in_tokens (t ∷ ts)) → ⊥) →
      (left_by (either_read b (from_token t ts end))).tokens ≡ drop at (t ∷ ts) →
      either_read c (from_token v us other)
      ≡ leaving (either_read b (from_token t ts end)) (left_after at (from_token v us other))
  differ t ts v us end other zero some same b c opens apart stops =
      let word : v.word ≡ t.word = cc in
      elim opens [
        | inl here ↦
            let is_open = opens_first t.word (words_in_tokens ts) here in
            at_first t v ts us end other is_open (word ∙ is_open) b c stops
        | inr there ↦
            let is_open = opens_first v.word (words_in_tokens us) there in
            at_first t v ts us end other (sym word ∙ is_open) is_open b c stops
      ]
  differ t [] v us end other (suc zero) some same b c opens apart stops = absurd (omega arith)
  differ t (s ∷ ts) v [] end other (suc zero) some same b c opens apart stops = absurd cc
  differ t (s ∷ ts) v (u ∷ us) end other (suc zero) some same b c opens apart stops =
      let first : v.word ≡ t.word = cc in
      let second : u.word ≡ s.word = cc in
      elim opens [
        | inl here ↦ absurd (not_second t s ts end (opens_first t.word (words_in_tokens (s ∷ ts)) here)
            (opens_second t.word s.word (words_in_tokens ts) here) b stops)
        | inr there ↦ absurd (not_second t s ts end
            (sym first ∙ opens_first v.word (words_in_tokens (u ∷ us)) there)
            (ap is_op_name (sym second) ∙ opens_second v.word u.word (words_in_tokens us) there) b stops)
      ]
  differ t ts v us end other (suc (suc k)) some same b c opens apart stops =
      let counted = length-map (t ∷ ts) (λ (p : Placed). p.word) in
      absurd (apart (three_tell k (words_in_tokens (v ∷ us)) (words_in_tokens (t ∷ ts)) (omega (arith, some, counted))
      same))

  either_alike : (ts us : List Placed) (end other at : ℕ) → at < length ts →
      take (suc at) (words_in_tokens us) ≡ take (suc at) (words_in_tokens ts) →
      (b c : Bool) → opens_names (words_in_tokens ts) ≡ b → opens_names (words_in_tokens us) ≡ c →
      (left_by (either_read b (record { tokens = ts; end = end }))).tokens ≡ drop at ts →
      either_read c (record { tokens = us; end = other })
      ≡ leaving (either_read b (record { tokens = ts; end = end }))
      (left_after at (record { tokens = us; end = other }))
  either_alike [] us end other at some same b c here there stops = absurd (omega arith)
  either_alike (t ∷ ts) [] end other at some same b c here there stops = absurd cc
  either_alike (t ∷ ts) (v ∷ us) end other at some same true false here there stops =
      differ t ts v us end other at some same true false (inl here)
      (λ e. let f : false ≡ true = sym there ∙ e ∙ here in cc) stops
  either_alike (t ∷ ts) (v ∷ us) end other at some same false true here there stops =
      differ t ts v us end other at some same false true (inr there)
      (λ e. let f : true ≡ false = sym there ∙ e ∙ here in cc) stops
  either_alike (t ∷ ts) (v ∷ us) end other at some same true true here there stops =
      picked_alike node_read leaf_read node_alike leaf_alike (from_token t ts end) (from_token v us other) at some
      same true true refl stops
  either_alike (t ∷ ts) (v ∷ us) end other at some same false false here there stops =
      picked_alike node_read leaf_read node_alike leaf_alike (from_token t ts end) (from_token v us other) at some
      same false false refl stops

  -- a production is read alike, whatever follows the token where its reading stops
  pub production_alike : LooksNoFurther (choice opens_names (node_production room) (leaf_production scope room)).read
  production_alike s u at h =
      either_alike s.tokens u.tokens s.end u.end at h.some h.same (opens_names (words s)) (opens_names (words u))
      refl refl h.stops
