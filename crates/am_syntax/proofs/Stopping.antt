-- Readers look no further than the token where they stop: each way of putting readers together keeps that.
use Rattle.std.proofs.Common.{◌≡◌, ℕ, zero, suc, ◌+◌, ◌-◌, ◌<◌, ◌≤◌, Bool, true, false, cond, List, [], ◌∷◌, ◌++◌}
use Rattle.std.proofs.Common.{codes}
use Rattle.std.proofs.Common.{drop, length, map, sum_by, take, Option, Some, None, Result, Ok, Err, refl, ap, sym}
use Rattle.std.proofs.Common.{subst}
use Rattle.std.proofs.Common.{◌∙◌, arith}
use Rattle.std.proofs.lemmas.List.{drop-drop, drop-map, drop-take, length-drop, length-map, take-take}
use Rattle.am_bv.specs.Operators.{arity}
use Rattle.am_bv.specs.Terms.{nodes}
use Rattle.am_bv.specs.declared.op.Op.{Op}
use Rattle.am_bv.specs.declared.term.Term.{Term}
use Rattle.am_bv.specs.declared.term.Term.TheVariants.{Node}
use Rattle.am_text.specs.Tokens.{Left, Placed, words}
use Rattle.am_syntax.specs.declared.refusal.Cause.{Cause}
use Rattle.am_syntax.specs.declared.refusal.Cause.TheVariants.{Count}
use Rattle.am_syntax.specs.Names.{operator, operator_judge}
use Rattle.am_syntax.specs.Readers.{◌>>=◌, Advances, LooksAtNext, LooksNoFurther, Reached, Read, ReadAlike, Reader}
use Rattle.am_syntax.specs.Readers.{StopsAt}
use Rattle.am_syntax.specs.Readers.{Word, Words, done, judged, judged_in, leaving, left_after, left_by, onward, settled}
use Rattle.am_syntax.specs.Pieces.{MovesOn, closing, count, key_judge, key_or, repeat_from, repeat_in, times_from}
use Rattle.am_syntax.specs.Spelling.{Scope}
use Rattle.am_syntax.specs.Terms.{head_judge, node_by, term_at}
use Rattle.am_syntax.proofs.Advancing.{bind_advances, judged_advances, node_advances, reached_ok, seen_advances}
use Rattle.am_syntax.proofs.Advancing.{term_advances, times_advances, within_advances}

-- ---- numbers of tokens

-- as many tokens are left as were there without those that were dropped
left_count : (n : ℕ) (s : Left) (ts : List Placed) → ts ≡ drop n s.tokens → length ts ≡ length s.tokens - n
left_count n s ts e = ap length e ∙ length-drop n s.tokens

-- where all tokens are left, none was dropped
none_dropped : (n : ℕ) (s : Left) → n < length s.tokens → s.tokens ≡ drop n s.tokens → n ≡ 0
none_dropped n s some e = omega (arith, left_count n s s.tokens e)

after_none : (n : ℕ) (u : Left) → n ≡ 0 → left_after n u ≡ u
after_none n u e = ap (λ k. left_after k u) e

-- the words left after so many tokens
words_after : (n : ℕ) (s : Left) → words (left_after n s) ≡ drop n (words s)
words_after n s = sym (drop-map (λ (t : Placed). t.word) n s.tokens)

-- fewer first words are the same, too
fewer_same : (m n : ℕ) (a b : Words) → m < suc n → take (suc n) a ≡ take (suc n) b → take (suc m) a ≡ take (suc m) b
fewer_same m n a b h e =
    sym (take-take (suc m) (suc n) a (omega arith)) ∙ ap (take (suc m)) e ∙ take-take (suc m) (suc n) b (omega arith)

-- so are those after the first ones
later_same : (j i k : ℕ) (a b : Words) → k ≡ j + i → take (suc k) a ≡ take (suc k) b →
    take (suc i) (drop j a) ≡ take (suc i) (drop j b)
later_same j i k a b sum e =
    let all : suc k ≡ j + suc i = omega arith in
    sym (drop-take j (suc i) a) ∙ ap (λ n. drop j (take n a)) (sym all) ∙ ap (drop j) e
    ∙ ap (λ n. drop j (take n b)) all ∙ drop-take j (suc i) b

-- ---- no token, and one token

-- a value that takes none
pub done_alike : {X : Type 0} (x : X) → LooksNoFurther (done x)
done_alike {X = X} x s u at h =
    ap (λ (l : Left). Ok (x, l)) (sym (after_none at u (none_dropped at s h.some h.stops)))

settled_alike : {X : Type 0} (t v : Placed) (ts us : List Placed) (end other at : ℕ) (verdict : Result X Cause) →
    at < length (t ∷ ts) → (left_by (settled t ts end verdict)).tokens ≡ drop at (t ∷ ts) →
    settled v us other verdict
    ≡ leaving (settled t ts end verdict) (left_after at (record { tokens = v ∷ us; end = other }))
settled_alike t v ts us end other at (Ok x) some stops =
    let one : at ≡ 1 = omega (arith, ap length stops ∙ length-drop at (t ∷ ts)) in
    ap (λ n. Ok (x, left_after n (record { tokens = v ∷ us; end = other }))) (sym one)
settled_alike t v ts us end other at (Err cause) some stops =
    let none : at ≡ 0 = omega (arith, ap length stops ∙ length-drop at (t ∷ ts)) in
    ap (λ n. Err (cause, left_after n (record { tokens = v ∷ us; end = other }))) (sym none)

judged_in_alike : {X : Type 0} (judge : Word → Result X Cause) (ts us : List Placed) (end other at : ℕ) →
    at < length ts → (left_by (judged_in judge ts end)).tokens ≡ drop at ts →
    take (suc at) (map (λ (t : Placed). t.word) us) ≡ take (suc at) (map (λ (t : Placed). t.word) ts) →
    judged_in judge us other ≡ leaving (judged_in judge ts end) (left_after at (record { tokens = us; end = other }))
judged_in_alike judge [] us end other at some stops same = absurd (omega arith)
judged_in_alike judge (t ∷ ts) [] end other at some stops same = absurd cc
judged_in_alike judge (t ∷ ts) (v ∷ us) end other at some stops same =
    let word : v.word ≡ t.word = cc in
    ap (λ (w : Word). settled v us other (judge w)) word
    ∙ settled_alike t v ts us end other at (judge t.word) some stops

-- a judge's token
pub judged_alike : {X : Type 0} (judge : Word → Result X Cause) → LooksNoFurther (judged judge)
unfolding judged
judged_alike judge s u at h = judged_in_alike judge s.tokens u.tokens s.end u.end at h.some h.stops h.same

-- ---- readers of readers

module _ {X Y : Type 0} (s u : Left) (reader : Reader X) (next other : X → Reader Y)
    (alike : ReadAlike reader reader s u) (advances : Advances reader)
    (forward : (x : X) (t : Left) → reader s ≡ Ok (x, t) → Reached t (left_by (next x t)))
    (then : (x : X) (t v : Left) → reader s ≡ Ok (x, t) → reader u ≡ Ok (x, v) →
    ReadAlike (next x) (other x) t v) where
  onward_alike : (at : ℕ) (read : Read X) → reader s ≡ read → at < length s.tokens →
      (left_by (onward next read)).tokens ≡ drop at s.tokens → take (suc at) (words u) ≡ take (suc at) (words s) →
      onward other (reader u) ≡ leaving (onward next read) (left_after at u)
  onward_alike at (Err stop) is some stops same =
      let here : (left_by (reader s)).tokens ≡ drop at s.tokens = ap (λ (r : Read X). (left_by r).tokens) is ∙ stops in
      ap (onward other) (alike at (record { some = some; stops = here; same = same })
      ∙ ap (λ (r : Read X). leaving r (left_after at u)) is)
  onward_alike at (Ok (x, t)) is some stops same =
      let first = reached_ok reader s t x advances is in
      let second = forward x t is in
      let j = first.taken in
      let i = second.taken in
      let counted = left_count j s t.tokens first.rest in
      let last = left_count i t (left_by (next x t)).tokens second.rest in
      let whole = left_count at s (left_by (next x t)).tokens stops in
      let sum : at ≡ j + i = omega (arith, counted, last, whole, some) in
      let here : (left_by (reader s)).tokens ≡ drop j s.tokens =
      ap (λ (r : Read X). (left_by r).tokens) is ∙ first.rest in
      let read : reader u ≡ Ok (x, left_after j u) =
      alike j (record {
        some = omega (arith, sum, some);
        stops = here;
        same = fewer_same j at (words u) (words s) (omega (arith, sum)) same;
      })
      ∙ ap (λ (r : Read X). leaving r (left_after j u)) is in
      let words_t : words t ≡ drop j (words s) =
      ap (map (λ (p : Placed). p.word)) first.rest ∙ words_after j s in
      ap (onward other) read
      ∙ then x t (left_after j u) is read i (record {
        some = omega (arith, counted, sum, some);
        stops = second.rest;
        same =
            ap (take (suc i)) (words_after j u) ∙ later_same j i at (words u) (words s) sum same
            ∙ ap (take (suc i)) (sym words_t);
      })
      ∙ ap (λ (ts : List Placed). leaving (next x t) (record { tokens = ts; end = u.end }))
      (drop-drop i j u.tokens ∙ ap (λ n. drop n u.tokens) (sym sum))

  -- one reader after another, and another one there
  pub onward_read_alike : ReadAlike (reader >>= next) (reader >>= other) s u
  onward_read_alike at h = onward_alike at (reader s) refl h.some h.stops h.same

-- one reader after another
pub bind_alike : {X Y : Type 0} (reader : Reader X) (next : X → Reader Y) → LooksNoFurther reader → Advances reader →
    ((x : X) → LooksNoFurther (next x)) → ((x : X) → Advances (next x)) → LooksNoFurther (reader >>= next)
bind_alike reader next alike advances then forward s u =
    onward_read_alike s u reader next next (alike s u) advances (λ x t _. forward x t) (λ x t v _ _. then x t v)

-- a reader whose value is seen otherwise
pub seen_alike : {X Y : Type 0} (reader : Reader X) (to : X → Y) → LooksNoFurther reader → Advances reader →
    LooksNoFurther (reader >>= λ x. done (to x))
seen_alike reader to alike advances =
    bind_alike reader (λ x. done (to x)) alike advances (λ x. done_alike (to x))
    (λ x. λ t. record { taken = 0; rest = refl; same_end = refl })

-- a test of the next token says the same
test_alike : (test : Words → Bool) → LooksAtNext test → (at : ℕ) (a b : Words) → 0 < length b →
    take (suc at) a ≡ take (suc at) b → test a ≡ test b
test_alike test next at a [] some same = absurd (omega arith)
test_alike test next at [] (v ∷ b) some same = absurd cc
test_alike test next at (w ∷ a) (v ∷ b) some same =
    let word : w ≡ v = cc in
    ap (λ (x : Word). test (x ∷ a)) word ∙ next v a b

-- one of two readers, where tests that say the same here and there pick it
pub picked_alike : {X : Type 0} (one two : Reader X) → LooksNoFurther one → LooksNoFurther two → (s u : Left) (at : ℕ) →
    at < length s.tokens → take (suc at) (words u) ≡ take (suc at) (words s) → (b c : Bool) → c ≡ b →
    (left_by (cond b (one s) (two s))).tokens ≡ drop at s.tokens →
    cond c (one u) (two u) ≡ leaving (cond b (one s) (two s)) (left_after at u)
picked_alike one two first second s u at some same true c is stops =
    ap (λ d. cond d (one u) (two u)) is ∙ first s u at (record { some = some; stops = stops; same = same })
picked_alike one two first second s u at some same false c is stops =
    ap (λ d. cond d (one u) (two u)) is ∙ second s u at (record { some = some; stops = stops; same = same })

-- one of two readers, as the next token says
pub choice_alike : {X : Type 0} (test : Words → Bool) → LooksAtNext test → (one two : Reader X) → LooksNoFurther one →
    LooksNoFurther two → LooksNoFurther (λ l. cond (test (words l)) (one l) (two l))
choice_alike test next one two first second s u at h =
    let counted = length-map s.tokens (λ (t : Placed). t.word) in
    picked_alike one two first second s u at h.some h.same (test (words s)) (test (words u))
    (test_alike test next at (words u) (words s) (omega (arith, h.some, counted)) h.same) h.stops

-- ---- how much is taken

-- so many tokens at least were taken
pub record TakesAtLeast (least : ℕ) (s left : Left) : Type 0 where
  pub taken : ℕ
  pub enough : least ≤ taken
  pub rest : left.tokens ≡ drop taken s.tokens

-- a reader goes forward by no token at least
pub takes_any : {X : Type 0} (reader : Reader X) → Advances reader → (s : Left) → TakesAtLeast 0 s (left_by (reader s))
takes_any reader advances s =
    let reached = advances s in record { taken = reached.taken; enough = omega arith; rest = reached.rest }

-- what is taken after one token, with it
pub takes_later : (n : ℕ) (s t left : Left) → t.tokens ≡ drop 1 s.tokens → TakesAtLeast n t left →
    TakesAtLeast (suc n) s left
takes_later n s t left one then = record {
  taken = 1 + then.taken;
  enough = omega (arith, then.enough);
  rest = then.rest ∙ ap (drop then.taken) one ∙ drop-drop then.taken 1 s.tokens;
}

-- what is read after one token
pub takes_next : {X Y : Type 0} (n : ℕ) (reader : Reader X) (next : X → Reader Y) (s t : Left) (x : X) →
    reader s ≡ Ok (x, t) → t.tokens ≡ drop 1 s.tokens → TakesAtLeast n t (left_by (next x t)) →
    TakesAtLeast (suc n) s (left_by ((reader >>= next) s))
takes_next {Y = Y} n reader next s t x e one then =
    subst (λ (r : Read Y). TakesAtLeast (suc n) s (left_by r)) (sym (ap (onward next) e))
    (takes_later n s t (left_by (next x t)) one then)

-- what is taken at least, and more after it
pub takes_then : {X Y : Type 0} (n : ℕ) (reader : Reader X) (next : X → Reader Y) (s : Left) → Advances reader →
    ((x : X) → Advances (next x)) → TakesAtLeast n s (left_by (reader s)) →
    TakesAtLeast n s (left_by ((reader >>= next) s))
takes_then {X = X} {Y = Y} n reader next s advances forward least = go (reader s) refl
  where
    go : (r : Read X) → reader s ≡ r → TakesAtLeast n s (left_by (onward next (reader s)))
    go (Ok (x, t)) is =
        let more = forward x t in
        let here : t.tokens ≡ drop least.taken s.tokens =
        ap (λ (r : Read X). (left_by r).tokens) (sym is) ∙ least.rest in
        record {
          taken = least.taken + more.taken;
          enough = omega (arith, least.enough);
          rest =
              ap (λ (r : Read Y). (left_by r).tokens) (ap (onward next) is) ∙ more.rest ∙ ap (drop more.taken) here
              ∙ drop-drop more.taken least.taken s.tokens;
        }
    go (Err stop) is = record {
      taken = least.taken;
      enough = least.enough;
      rest =
          ap (λ (r : Read Y). (left_by r).tokens) (ap (onward next) is)
          ∙ ap (λ (r : Read X). (left_by r).tokens) (sym is) ∙ least.rest;
    }

-- a reader stops no earlier than at the token after those that it takes at least
pub stops_late : (n : ℕ) (s left : Left) (at : ℕ) → TakesAtLeast n s left → at < length s.tokens →
    left.tokens ≡ drop at s.tokens → n ≤ at
stops_late n s left at least some stops =
    omega (
      arith,
      least.enough,
      some,
      left_count least.taken s left.tokens least.rest,
      left_count at s left.tokens stops,
    )

-- ---- lists

module _ {X : Type 0} (item : List X → Reader X) (alike : (seen : List X) → LooksNoFurther (item seen))
    (each : (seen : List X) → Advances (item seen)) where
  -- so many items
  pub times_alike : (n : ℕ) (seen : List X) → LooksNoFurther (times_from item n seen)
  unfolding times_from
  times_alike zero seen = done_alike seen
  times_alike (suc n) seen =
      bind_alike (item seen) (λ x. times_from item n (seen ++ x ∷ [])) (alike seen) (each seen)
      (λ x. times_alike n (seen ++ x ∷ [])) (λ x. times_advances item each n (seen ++ x ∷ []))

  module _ (goes : Words → Bool) (next : LooksAtNext goes) (moves : MovesOn item) where
    abbrev step : ℕ → List X → Reader (List X)
    step n seen = item seen >>= λ x. repeat_in goes item n (seen ++ x ∷ [])

    step_alike : (n m : ℕ) (seen : List X) (s u : Left) →
        ((x : X) (t v : Left) → item seen s ≡ Ok (x, t) → item seen u ≡ Ok (x, v) →
        ReadAlike (repeat_in goes item n (seen ++ x ∷ [])) (repeat_in goes item m (seen ++ x ∷ [])) t v) →
        (at : ℕ) → at < length s.tokens → take (suc at) (words u) ≡ take (suc at) (words s) → (b : Bool) →
        (left_by (cond b (step n seen s) (Ok (seen, s)))).tokens ≡ drop at s.tokens →
        cond b (step m seen u) (Ok (seen, u)) ≡ leaving (cond b (step n seen s) (Ok (seen, s))) (left_after at u)
    step_alike n m seen s u later at some same true stops =
        onward_read_alike s u (item seen) (λ x. repeat_in goes item n (seen ++ x ∷ []))
        (λ x. repeat_in goes item m (seen ++ x ∷ [])) (alike seen s u) (each seen)
        (λ x t _. within_advances item each goes n (seen ++ x ∷ []) t) later at
        (record { some = some; stops = stops; same = same })
    step_alike n m seen s u later at some same false stops =
        done_alike seen s u at (record { some = some; stops = stops; same = same })

    within_alike : (n m : ℕ) (seen : List X) (s u : Left) → length s.tokens < n → length u.tokens < m →
        ReadAlike (repeat_in goes item n seen) (repeat_in goes item m seen) s u
    unfolding repeat_in
    within_alike zero m seen s u long short at h = absurd (omega arith)
    within_alike (suc n) zero seen s u long short at h = absurd (omega arith)
    within_alike (suc n) (suc m) seen s u long short at h =
        let counted = length-map s.tokens (λ (t : Placed). t.word) in
        let later = λ (x : X) (t v : Left) (here : item seen s ≡ Ok (x, t)) (there : item seen u ≡ Ok (x, v)).
        within_alike n m (seen ++ x ∷ []) t v (let less = moves seen s x t here in omega (arith, less, long))
        (let less = moves seen u x v there in omega (arith, less, short)) in
        ap (λ b. cond b (step m seen u) (Ok (seen, u)))
        (test_alike goes next at (words u) (words s) (omega (arith, h.some, counted)) h.same)
        ∙ step_alike n m seen s u later at h.some h.same (goes (words s)) h.stops

    -- items as long as one comes
    pub repeat_alike : (seen : List X) → LooksNoFurther (repeat_from goes item seen)
    unfolding repeat_from
    repeat_alike seen s u at h =
        within_alike (suc (length s.tokens)) (suc (length u.tokens)) seen s u (omega arith) (omega arith) at
        (record { some = h.some; stops = h.stops; same = h.same })

-- ---- terms

module _ (argument : List Term → Reader Term) (alike : (seen : List Term) → LooksNoFurther (argument seen))
    (each : (seen : List Term) → Advances (argument seen)) where
  abbrev node_end : Op → List Term → Reader Term
  node_end op args = closing.read >>= λ _. done (Node op args)

  end_alike : (op : Op) (args : List Term) → LooksNoFurther (node_end op args)
  unfolding key_or
  end_alike op args =
      let judge = key_judge count (codes ")") in
      seen_alike closing.read (λ _. Node op args) (judged_alike judge) (judged_advances judge)

  end_advances : (op : Op) (args : List Term) → Advances (node_end op args)
  unfolding key_or
  end_advances op args = seen_advances closing.read (λ _. Node op args) (judged_advances (key_judge count (codes ")")))

  args_alike : (op : Op) → LooksNoFurther (times_from argument (arity op) [] >>= node_end op)
  args_alike op =
      bind_alike (times_from argument (arity op) []) (node_end op) (times_alike argument alike each (arity op) [])
      (times_advances argument each (arity op) []) (end_alike op) (end_advances op)

  node_alike : (head : Option Term) → LooksNoFurther (node_by argument head)
  unfolding operator
  node_alike (Some t) = done_alike t
  node_alike None =
      bind_alike operator.read (λ op. times_from argument (arity op) [] >>= node_end op) (judged_alike operator_judge)
      (judged_advances operator_judge) args_alike
      (λ op. bind_advances (times_from argument (arity op) []) (node_end op)
      (times_advances argument each (arity op) []) (end_advances op))

-- a term
pub term_alike : (scope : Scope) (inside : Bool) (depth room : ℕ) → LooksNoFurther (term_at scope inside depth room)
unfolding term_at
term_alike scope inside zero room =
    let argument : List Term → Reader Term = λ _. judged (λ _. Err Count) in
    let judge = head_judge scope inside 0 room in
    bind_alike (judged judge) (node_by argument) (judged_alike judge) (judged_advances judge)
    (node_alike argument (λ _. judged_alike (λ _. Err Count)) (λ _. judged_advances (λ _. Err Count)))
    (node_advances argument (λ _. judged_advances (λ _. Err Count)))
term_alike scope inside (suc depth) room =
    let argument : List Term → Reader Term = λ seen. term_at scope true depth (room - 1 - sum_by nodes seen) in
    let judge = head_judge scope inside (suc depth) room in
    let forward = λ (seen : List Term). term_advances scope true depth (room - 1 - sum_by nodes seen) in
    bind_alike (judged judge) (node_by argument) (judged_alike judge) (judged_advances judge)
    (node_alike argument (λ seen. term_alike scope true depth (room - 1 - sum_by nodes seen)) forward)
    (node_advances argument forward)
