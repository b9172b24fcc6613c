-- Readers go forward alone: each way of putting readers together keeps that.
use Rattle.std.proofs.Common.{◌≡◌, ℕ, zero, suc, ◌+◌, ◌-◌, Bool, true, false, cond, List, [], ◌∷◌, ◌++◌, codes, drop}
use Rattle.std.proofs.Common.{length, sum_by, Option, Some, None, Result, Ok, Err, refl, ap, subst, ◌∙◌}
use Rattle.std.proofs.lemmas.List.{drop-drop}
use Rattle.am_bv.specs.Operators.{arity}
use Rattle.am_bv.specs.Terms.{nodes}
use Rattle.am_bv.specs.declared.op.Op.{Op}
use Rattle.am_bv.specs.declared.term.Term.{Term}
use Rattle.am_bv.specs.declared.term.Term.TheVariants.{Node}
use Rattle.am_text.specs.Tokens.{Left, Placed, words}
use Rattle.am_syntax.specs.declared.refusal.Cause.{Cause}
use Rattle.am_syntax.specs.declared.refusal.Cause.TheVariants.{Count}
use Rattle.am_syntax.specs.Names.{operator, operator_judge}
use Rattle.am_syntax.specs.Readers.{◌>>=◌, Advances, Reached, Read, Reader, Word, Words, done, judged, judged_in}
use Rattle.am_syntax.specs.Readers.{left_by, onward, settled}
use Rattle.am_syntax.specs.Pieces.{closing, count, key_judge, key_or, repeat_from, repeat_in, times_from}
use Rattle.am_syntax.specs.Spelling.{Scope}
use Rattle.am_syntax.specs.Terms.{head_judge, node_by, term_at}

-- ---- tokens that were reached

-- nothing was taken
pub reached_here : (s : Left) → Reached s s
reached_here s = record { taken = 0; rest = refl; same_end = refl }

-- what was reached from what was reached
pub reached_then : (s t u : Left) → Reached s t → Reached t u → Reached s u
reached_then s t u p q = record {
  taken = p.taken + q.taken;
  rest = q.rest ∙ ap (drop q.taken) p.rest ∙ drop-drop q.taken p.taken s.tokens;
  same_end = q.same_end ∙ p.same_end;
}

-- after a value that was read
pub reached_ok : {X : Type 0} (reader : Reader X) (s t : Left) (x : X) → Advances reader → reader s ≡ Ok (x, t) →
    Reached s t
reached_ok reader s t x forward e = subst (Reached s) (ap left_by e) (forward s)

-- ---- one token

settled_reached : {X : Type 0} (t : Placed) (ts : List Placed) (end : ℕ) (verdict : Result X Cause) →
    Reached (record { tokens = t ∷ ts; end = end }) (left_by (settled t ts end verdict))
settled_reached t ts end (Ok x) = record { taken = 1; rest = refl; same_end = refl }
settled_reached t ts end (Err cause) = reached_here (record { tokens = t ∷ ts; end = end })

judged_reached : {X : Type 0} (judge : Word → Result X Cause) (ts : List Placed) (end : ℕ) →
    Reached (record { tokens = ts; end = end }) (left_by (judged_in judge ts end))
judged_reached judge [] end = reached_here (record { tokens = []; end = end })
judged_reached judge (t ∷ ts) end = settled_reached t ts end (judge t.word)

-- a judge's token
pub judged_advances : {X : Type 0} (judge : Word → Result X Cause) → Advances (judged judge)
unfolding judged
judged_advances judge s = judged_reached judge s.tokens s.end

-- ---- readers of readers

onward_reached : {X Y : Type 0} (s : Left) (read : Read X) (next : X → Reader Y) → Reached s (left_by read) →
    ((x : X) (t : Left) → read ≡ Ok (x, t) → Reached t (left_by (next x t))) →
    Reached s (left_by (onward next read))
onward_reached s (Ok p) next here then = reached_then s p.1 (left_by (next p.0 p.1)) here (then p.0 p.1 refl)
onward_reached s (Err stop) next here then = here

-- one reader after another, which goes forward after what was read
pub bind_reached : {X Y : Type 0} (s : Left) (reader : Reader X) (next : X → Reader Y) → Advances reader →
    ((x : X) (t : Left) → reader s ≡ Ok (x, t) → Reached t (left_by (next x t))) →
    Reached s (left_by (onward next (reader s)))
bind_reached s reader next one two = onward_reached s (reader s) next (one s) two

-- one reader after another
pub bind_advances : {X Y : Type 0} (reader : Reader X) (next : X → Reader Y) → Advances reader →
    ((x : X) → Advances (next x)) → Advances (reader >>= next)
bind_advances reader next one two s = bind_reached s reader next one (λ x t _. two x t)

-- a reader whose value is seen otherwise
pub seen_advances : {X Y : Type 0} (reader : Reader X) (to : X → Y) → Advances reader →
    Advances (reader >>= λ x. done (to x))
seen_advances reader to one = bind_advances reader (λ x. done (to x)) one (λ x t. reached_here t)

-- one of two readers
pub if_reached : {X : Type 0} (b : Bool) (one two : Reader X) (s : Left) → Advances one → Advances two →
    Reached s (left_by (cond b (one s) (two s)))
if_reached true one two s p q = p s
if_reached false one two s p q = q s

-- ---- lists

module _ {X : Type 0} (item : List X → Reader X) (each : (seen : List X) → Advances (item seen)) where
  -- so many items
  pub times_advances : (n : ℕ) (seen : List X) → Advances (times_from item n seen)
  unfolding times_from
  times_advances zero seen s = reached_here s
  times_advances (suc n) seen s =
      bind_advances (item seen) (λ x. times_from item n (seen ++ x ∷ [])) (each seen)
      (λ x. times_advances n (seen ++ x ∷ [])) s

  -- items of at most so many tokens, as long as one comes
  pub within_advances : (goes : Words → Bool) (n : ℕ) (seen : List X) → Advances (repeat_in goes item n seen)
  unfolding repeat_in
  within_advances goes zero seen s = reached_here s
  within_advances goes (suc n) seen s =
      if_reached (goes (words s)) (item seen >>= λ x. repeat_in goes item n (seen ++ x ∷ [])) (done seen) s
      (bind_advances (item seen) (λ x. repeat_in goes item n (seen ++ x ∷ [])) (each seen)
      (λ x. within_advances goes n (seen ++ x ∷ [])))
      reached_here

  -- items as long as one comes
  pub repeat_advances : (goes : Words → Bool) (seen : List X) → Advances (repeat_from goes item seen)
  unfolding repeat_from
  repeat_advances goes seen s = within_advances goes (suc (length s.tokens)) seen s

-- ---- terms

module _ (argument : List Term → Reader Term) (each : (seen : List Term) → Advances (argument seen)) where
  -- what follows an operator's name
  pub args_advances : (op : Op) → Advances (times_from argument (arity op) [] >>= λ args. closing.read >>= λ _.
      done (Node op args))
  unfolding key_or
  args_advances op =
      bind_advances (times_from argument (arity op) []) (λ args. closing.read >>= λ _. done (Node op args))
      (times_advances argument each (arity op) []) (λ args.
      seen_advances closing.read (λ _. Node op args) (judged_advances (key_judge count (codes ")"))))

  -- what follows the first token of a term
  pub node_advances : (head : Option Term) → Advances (node_by argument head)
  unfolding operator
  node_advances (Some t) = reached_here
  node_advances None =
      bind_advances operator.read (λ op. times_from argument (arity op) [] >>= λ args. closing.read >>= λ _.
      done (Node op args)) (judged_advances operator_judge) args_advances

-- a term
pub term_advances : (scope : Scope) (inside : Bool) (depth room : ℕ) → Advances (term_at scope inside depth room)
unfolding term_at
term_advances scope inside zero room =
    let argument : List Term → Reader Term = λ _. judged (λ _. Err Count) in
    bind_advances (judged (head_judge scope inside 0 room)) (node_by argument)
    (judged_advances (head_judge scope inside 0 room)) (node_advances argument (λ _. judged_advances (λ _. Err Count)))
term_advances scope inside (suc depth) room =
    let argument : List Term → Reader Term = λ seen. term_at scope true depth (room - 1 - sum_by nodes seen) in
    bind_advances (judged (head_judge scope inside (suc depth) room)) (node_by argument)
    (judged_advances (head_judge scope inside (suc depth) room))
    (node_advances argument (λ seen. term_advances scope true depth (room - 1 - sum_by nodes seen)))
