-- What calls follow and give, statement after statement.
use Rattle.std.proofs.Common.{◌≡◌, ℕ, suc, ◌+◌, ◌<◌, ◌≤◌, List, [], ◌∷◌, ◌++◌, take, drop, get_or, length, zip}
use Rattle.std.proofs.Common.{append-nil, refl, ◌∙◌, ap, subst, arith}
use Rattle.std.proofs.lemmas.List.{drop_all}
use Rattle.am_lit.specs.Literal.{opposite_of}
use Rattle.am_gate.specs.Circuit.{Grows, HasInputs, IsLiteral, Net, inputs_of}
use Rattle.am_gate.specs.Build.{Step, answer, place_of, tell, Follows}
use Rattle.am_gate.specs.Promises.{GivesStep}
use Rattle.am_gate.proofs.Laws.{Follows-answer, Follows-bind, GivesStep-bind, Grows-same, Grows-trans}
use Rattle.am_gate.proofs.Laws.{HasInputs-Follows}
use Rattle.am_bv.specs.declared.term.Term.{Term}
use Rattle.am_bv.specs.Terms.{val}
use Rattle.am_blast.specs.Words.{IsWord, constant}
use Rattle.am_blast.specs.Circuits.{blasted, in_turn}
use Rattle.am_blast.specs.Comparisons.{nonzero}
use Rattle.am_blast.proofs.Laws.{drop-from}
use Rattle.am_slot.specs.Template.{block, template}
use Rattle.am_problem.specs.Examples.{split}
use Rattle.am_problem.specs.Problem.{Problem}
use Rattle.am_problem.specs.declared.examples.Negative.{Negative}
use Rattle.am_problem.specs.declared.examples.Positive.{Positive}
use Rattle.am_query.specs.Formulas.{constants, covered, each, encoding_of, fit, forced, member_test, refused, test}
use Rattle.am_query.specs.Formulas.{uncovered}
use Rattle.am_query.specs.inside.Statements.{Any, States}
use Rattle.am_query.proofs.Builds.{Builds}

-- a term, and the test of its word
pub GivesStep-test : {w j k l : ℕ} (t : Term) (words : List (List ℕ)) {value : List ℕ} {old mid new : Net} →
    GivesStep (blasted w words t) j (IsWord w) old value mid → GivesStep (nonzero value) k IsLiteral mid l new →
    GivesStep (test w t words) (j + k) IsLiteral old l new
unfolding test
GivesStep-test t words one two = GivesStep-bind _ one two (omega arith)

-- a clause
GivesStep-tell : (c : List ℕ) {old new : Net} → Follows (tell c) old tt new → Grows 1 old new →
    GivesStep (tell c) 1 Any old tt new
GivesStep-tell c f g = record { follows = f; given = tt; grows = g }

-- a test that is forced
pub GivesStep-forced : {m : Step ℕ} {k l : ℕ} {old mid new : Net} → GivesStep m k IsLiteral old l mid →
    Follows (tell (l ∷ [])) mid tt new → Grows 1 mid new →
    States (forced m) (k + 1) old tt new
unfolding forced
GivesStep-forced one f g = GivesStep-bind _ one (GivesStep-tell _ f g) (omega arith)

-- a test that is refused
pub GivesStep-refused : {m : Step ℕ} {k l : ℕ} {old mid new : Net} → GivesStep m k IsLiteral old l mid →
    Follows (tell (opposite_of l ∷ [])) mid tt new → Grows 1 mid new →
    States (refused m) (k + 1) old tt new
unfolding refused
GivesStep-refused one f g = GivesStep-bind _ one (GivesStep-tell _ f g) (omega arith)

-- nothing is stated
pub States-nothing : (k : ℕ) (n : Net) → States (answer tt) k n tt n
States-nothing k n =
    record { follows = Follows-answer; given = tt; grows = Grows-trans k (Grows-same n) (Grows-same n) (omega arith) }

-- an example: a block at constants, and a statement of its result
pub GivesStep-covered : (p : Problem) (e : Positive) {j k n : ℕ} {Q : ℕ → List (List ℕ) → Type 0}
    {tuple : List (List ℕ)}
    {old mid new : Net} →
    GivesStep (block (encoding_of p) (constants p e.inputs)) j Q old tuple mid →
    States (forced (member_test p tuple (constant p.width (val p.width p.operation e.words)))) k mid tt new →
    j + k ≤ n → States (covered p e) n old tt new
unfolding covered
GivesStep-covered p e one two l = GivesStep-bind _ one two l

-- a negative example: a block at constants, and a statement of its result
pub GivesStep-uncovered : (p : Problem) (e : Negative) {j k n : ℕ} {Q : ℕ → List (List ℕ) → Type 0}
    {tuple : List (List ℕ)}
    {old mid new : Net} →
    GivesStep (block (encoding_of p) (constants p e.inputs)) j Q old tuple mid →
    States (refused (member_test p tuple (constant p.width e.word))) k mid tt new →
    j + k ≤ n → States (uncovered p e) n old tt new
unfolding uncovered
GivesStep-uncovered p e one two l = GivesStep-bind _ one two l

-- the template, and what is stated of it
pub Follows-fit : (p : Problem) (pos : List Positive) (neg : List Negative) {old a b new : Net} →
    Follows (template (encoding_of p)) old tt a → Follows (each (covered p) pos) a tt b →
    Follows (each (uncovered p) neg) b tt new →
    Follows (fit p pos neg) old tt new
unfolding fit
Follows-fit p pos neg one two three = Follows-bind _ one (Follows-bind _ two three)

-- a call that makes no inputs leaves those that there are
pub HasInputs-quiet : {A : Type 0} {m : Step A} {k : ℕ} {Q : ℕ → A → Type 0} {inputs : List ℕ} {old new : Net} {r : A} →
    HasInputs inputs old → Follows m old r new → Builds m k 0 Q (place_of old) → HasInputs inputs new
HasInputs-quiet {m = m} {inputs = inputs} {old = old} {new = new} h f b =
    let none : inputs_of old.vars (m (place_of old)).events ≡ [] =
    length-none (inputs_of old.vars (m (place_of old)).events) b.inputs in
    subst (λ xs. HasInputs xs new) (ap (λ xs. inputs ++ xs) none ∙ append-nil inputs) (HasInputs-Follows h f b.scoped)
  where
    length-none : (xs : List ℕ) → length xs ≡ 0 → xs ≡ []
    length-none [] e = refl
    length-none (x ∷ xs) e = absurd (omega (arith, e))

-- statements, one after another
module _ {A : Type 0} (state : A → Step (Unit {0})) where
  -- one more
  pub Follows-each : {old mid new : Net} (x : A) (xs : List A) →
      Follows (state x) old tt mid → Follows (each state xs) mid tt new → Follows (each state (x ∷ xs)) old tt new
  unfolding each
  Follows-each x xs one rest = Follows-bind _ one rest

  -- no more
  pub Follows-none : {n : Net} → Follows (each state []) n tt n
  unfolding each
  Follows-none = Follows-answer

  -- the one at a place of a list, and the others after it
  pub Follows-each_at : {old mid new : Net} (i : ℕ) (x : A) (xs : List A) → i < length xs → x ≡ get_or xs i x →
      Follows (state x) old tt mid → Follows (each state (drop (i + 1) xs)) mid tt new →
      Follows (each state (drop i xs)) old tt new
  Follows-each_at i x xs l e one rest = rw (drop-from i x xs l e) (Follows-each x (drop (i + 1) xs) one rest)

  -- at the end of a list no statement is left
  pub Follows-each_end : {n : Net} (i : ℕ) (xs : List A) → length xs ≤ i → Follows (each state (drop i xs)) n tt n
  Follows-each_end i xs l = rw (drop_all i xs l) Follows-none

-- of the first tuple of a row, and of the others
pub Follows-split : (state : List (List ℕ) → Step (Unit {0})) {old mid new : Net} (k m : ℕ) (row : List (List ℕ)) →
    Follows (state (take k row)) old tt mid → Follows (each state (split k m (drop k row))) mid tt new →
    Follows (each state (split k (suc m) row)) old tt new
unfolding split
Follows-split state k m row one rest = Follows-each state (take k row) (split k m (drop k row)) one rest

-- no statement is left where the row has no further tuple
pub Follows-split_end : (state : List (List ℕ) → Step (Unit {0})) {n : Net} (k : ℕ) (row : List (List ℕ)) →
    Follows (each state (split k 0 row)) n tt n
unfolding split
Follows-split_end state k row = Follows-none state

-- of the first tuple of a row and a word, and of the others
pub Follows-paired : (state : List (List ℕ) × List ℕ → Step (Unit {0})) {old mid new : Net} (k m : ℕ)
    (row : List (List ℕ)) (c : List ℕ) (cs : List (List ℕ)) →
    Follows (state (take k row, c)) old tt mid → Follows (each state (zip (split k m (drop k row)) cs)) mid tt new →
    Follows (each state (zip (split k (suc m) row) (c ∷ cs))) old tt new
unfolding split
Follows-paired state k m row c cs one rest =
    Follows-each state (take k row, c) (zip (split k m (drop k row)) cs) one rest

-- no statement is left where the row has no further tuple, and no word
pub Follows-paired_end : (state : List (List ℕ) × List ℕ → Step (Unit {0})) {n : Net} (k : ℕ) (row : List (List ℕ)) →
    Follows (each state (zip (split k 0 row) [])) n tt n
unfolding split
Follows-paired_end state k row = Follows-none state

-- one more step in turn
pub Follows-turn : {A : Type 0} {m : Step A} (ms : List (Step A)) {a : A} {rest : List A} {old mid new : Net} →
    Follows m old a mid → Follows (in_turn ms) mid rest new → Follows (in_turn (m ∷ ms)) old (a ∷ rest) new
unfolding in_turn
Follows-turn ms one more = Follows-bind _ one (Follows-bind _ more Follows-answer)

-- no step is left in turn
pub Follows-turns_end : {A : Type 0} {n : Net} → Follows (in_turn {A = A} []) n [] n
unfolding in_turn
Follows-turns_end = Follows-answer
