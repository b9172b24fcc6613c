-- Where the words of inputs stand.
use Rattle.std.proofs.Common.{◌≡◌, ℕ, zero, suc, ◌+◌, ◌*◌, Bool, false, [], refl, sym, ◌∙◌, ap, subst, arith}
use Rattle.am_lit.specs.Literal.{literal_of}
use Rattle.am_gate.specs.Circuit.{Event.Input, Net}
use Rattle.am_gate.specs.Build.{Follows, Step, Place, past, place_of, ◌>>=◌, answer, ask}
use Rattle.am_gate.specs.Reaches.{Reaches}
use Rattle.am_gate.proofs.Laws.{never-input, past-append, place_of-built}
use Rattle.am_blast.specs.Circuits.{in_turn}
use Rattle.am_query.specs.Formulas.{input_word, input_words}
use Rattle.am_query.specs.Witnesses.{word_from, words_from}

-- a step gives a value, and makes so many variables
pub record Puts {A : Type 0} (m : Step A) (p : Place) (a : A) (count : ℕ) : Type 0 where
  pub value : (m p).value ≡ a
  pub next : (past p (m p).events).next ≡ p.next + count

-- one step after another
puts-bind : {A B : Type 0} {m : Step A} {p : Place} {a : A} {b : B} {j : ℕ} (k n : ℕ) (f : A → Step B) →
    Puts m p a j → j + k ≡ n → ((q : Place) → q.next ≡ p.next + j → Puts (f a) q b k) → Puts (m >>= f) p b n
unfolding ◌>>=◌
puts-bind {m = m} {p = p} {b = b} k n f one e two =
    let es = (m p).events in
    let q = past p es in
    let r = subst (λ x. Puts (f x) q b k) (sym one.value) (two q one.next) in
    record {
      value = r.value;
      next = rw (past-append p es (f (m p).value q).events) (omega (arith, one.next, r.next, e));
    }

puts-answer : {A : Type 0} (a : A) (p : Place) → Puts (answer a) p a 0
unfolding answer past
puts-answer a p = record { value = refl; next = omega arith }

-- an input is the next variable
puts-input : (p : Place) → Puts (ask Input) p (literal_of p.next false) 1
unfolding ask past
puts-input p = record { value = rw (never-input p.folding) refl; next = rw (never-input p.folding) refl }

-- a word of inputs, from the next variable on
pub puts-input_word : (w : ℕ) (p : Place) → Puts (input_word w) p (word_from w p.next) w
unfolding input_word in_turn
puts-input_word zero p = puts-answer [] p
puts-input_word (suc w) p =
    puts-bind w (suc w) _ (puts-input p) (omega arith)
    (λ q e. puts-bind 0 w _ (subst (λ x. Puts (input_word w) q (word_from w x) w) e (puts-input_word w q)) (omega arith)
    (λ r f. puts-answer (word_from (suc w) p.next) r))

-- words of inputs
pub puts-input_words : (w count : ℕ) (p : Place) → Puts (input_words w count) p (words_from w count p.next) (count * w)
unfolding input_words in_turn
puts-input_words w zero p = subst (Puts (input_words w 0) p []) (omega arith) (puts-answer [] p)
puts-input_words w (suc count) p =
    puts-bind (count * w) (suc count * w) _ (puts-input_word w p) (omega arith)
    (λ q e. puts-bind 0 (count * w) _
    (subst (λ x. Puts (input_words w count) q (words_from w count x) (count * w)) e (puts-input_words w count q))
    (omega arith)
    (λ r f. puts-answer (words_from w (suc count) p.next) r))

-- what truth values reach is known of the step's own value, and of the place after it
pub Reaches-own : {A : Type 0} {v : ℕ → Bool} {m : Step A} {p : Place} {Q : (ℕ → Bool) → Place → A → Type 0} →
    Reaches v m p Q → Reaches v m p (λ u q a. Q u q a × (a ≡ (m p).value) × (q ≡ past p (m p).events))
Reaches-own r =
    record { scoped = r.scoped; values = r.values; below = r.below; meets = r.meets; given = (r.given, refl, refl) }

-- what a call gives that follows a step
pub put-by : {A : Type 0} {m : Step A} {old new : Net} {r a : A} {count : ℕ} → Follows m old r new →
    Puts m (place_of old) a count →
    (r ≡ a) × (new.vars ≡ old.vars + count)
put-by {m = m} {old = old} f puts = (
  f.value ∙ puts.value,
  ap (λ (n : Net). n.vars) f.circuit ∙ ap (λ (q : Place). q.next) (place_of-built old (m (place_of old)).events)
      ∙ puts.next,
)
