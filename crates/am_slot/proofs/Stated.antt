-- What a new circuit has once a template is made in it.
use Rattle.std.proofs.Common.{◌≡◌, ℕ, zero, suc, ◌+◌, ◌≤◌, Bool, true, List, [], ◌∷◌, ◌++◌, append_assoc, refl, sym}
use Rattle.std.proofs.Common.{◌∙◌, ap, subst}
use Rattle.std.specs.Prelude.{All, IsTrue, flat_map}
use Rattle.std.specs.List.{AllByRecursion, range_with_len}
use Rattle.std.proofs.lemmas.List.{append-nil}
use Rattle.std.proofs.lemmas.Bool.{and_from}
use Rattle.std.proofs.lemmas.List.Elements.{All-from_recursion, recursion_from_All}
use Rattle.am_lit.specs.Truth.{Satisfies, clause_value, value_at}
use Rattle.am_gate.specs.Circuit.{Event.Clause, Net, added, after, built, start, HasInputs, IsLiteral}
use Rattle.am_gate.specs.Build.{Place, past, place_of, ◌>>=◌, answer, ask, tell, Follows}
use Rattle.am_gate.proofs.Laws.{never-input, Follows-bind, place_of-built, built-append, Satisfies-built}
use Rattle.am_gate.proofs.Laws.{HasInputs-start, HasInputs-Follows}
use Rattle.am_tree.specs.declared.tree.Tree.{Tree}
use Rattle.am_slot.specs.Encoding.{Encoding, IsEncoding}
use Rattle.am_slot.specs.Template.{selectors_of, slot_clauses_of, inputs, told, template, decoded, IsDerivedTuple}
use Rattle.am_slot.specs.Theorems.{MakesSelectors}
use Rattle.am_slot.proofs.Picks.{AllTrue}
use Rattle.am_slot.proofs.Whole.{template_from, template_to, tuple_derives, tuple_chosen, agrees-value}
use Rattle.am_slot.proofs.Scope.{template_makes, all-inside}

-- a template is made by its inputs, then its clauses
pub Follows-template : (e : Encoding) (a b c : Net) → Follows (inputs (selectors_of e)) a tt b
    → Follows (told (slot_clauses_of e)) b tt c
    → Follows (template e) a tt c
unfolding template
Follows-template e a b c one two = Follows-bind _ one two

-- the clauses that inputs and stated clauses leave

after_inputs : (k : ℕ) (n : Net) → (built n (inputs k (place_of n)).events).clauses ≡ n.clauses
unfolding inputs answer ◌>>=◌ ask built after past
after_inputs zero n = refl
after_inputs (suc k) n =
    rw (never-input n.folding)
    (after_inputs k (record n { vars = n.vars + 1; clauses = n.clauses ++ [] }) ∙ append-nil n.clauses)

after_told : (cs : List (List ℕ)) (n : Net) (p : Place)
    → (built n (told cs p).events).clauses ≡ n.clauses ++ flat_map added cs
unfolding told answer ◌>>=◌ tell built after
after_told [] n p = sym (append-nil n.clauses)
after_told (c ∷ cs) n p =
    after_told cs (after n (Clause c)) (past p (Clause c ∷ []))
    ∙ append_assoc n.clauses (added c ++ []) (flat_map added cs)
    ∙ ap (λ (l : List (List ℕ)). n.clauses ++ (l ++ flat_map added cs)) (append-nil (added c))

-- clauses that are all satisfied

satisfied_true : (v : ℕ → Bool) (cs : List (List ℕ)) → AllByRecursion (λ c. IsTrue (clause_value v c)) cs → AllTrue v cs
satisfied_true v [] h = refl
satisfied_true v (c ∷ cs) h = and_from _ _ h.0 (satisfied_true v cs h.1)

-- what satisfies the clauses decodes to a tuple that derives
pub derived_by : (e : Encoding) → IsEncoding e → (v : ℕ → Bool) → Satisfies v (slot_clauses_of e) → IsDerivedTuple e
    (decoded e v)
derived_by e is v h =
    tuple_derives e is v
    (satisfied_true v (slot_clauses_of e) (recursion_from_All (λ c. IsTrue (clause_value v c)) (slot_clauses_of e) h))

-- literals of the circuit

-- the literals of all clauses are of variable 0 and the selectors
pub clauses_in : (e : Encoding) (n : ℕ) → 1 + selectors_of e ≤ n → All (All (IsLiteral n)) (slot_clauses_of e)
clauses_in e n l = go (slot_clauses_of e) (all-inside e n l)
  where
    each : (cs : List (List ℕ)) → AllByRecursion (λ c. AllByRecursion (IsLiteral n) c) cs
        → AllByRecursion (All (IsLiteral n)) cs
    each [] h = tt
    each (c ∷ cs) h = (All-from_recursion (IsLiteral n) c h.0, each cs h.1)

    go : (cs : List (List ℕ)) → AllByRecursion (λ c. AllByRecursion (IsLiteral n) c) cs → All (All (IsLiteral n)) cs
    go cs h = All-from_recursion (All (IsLiteral n)) cs (each cs h)

module _ (e : Encoding) (folding : Bool) (new : Net) (f : Follows (template e) (start folding) tt new) where
  makes : MakesSelectors e (place_of (start folding))
  makes = template_makes e (place_of (start folding)) refl

  -- it has variable 0 and the selectors
  pub new-vars : new.vars ≡ 1 + selectors_of e
  new-vars =
      ap (λ (n : Net). n.vars) f.circuit
      ∙ ap (λ (p : Place). p.next) (place_of-built (start folding) (template e (place_of (start folding))).events)
      ∙ makes.next

  -- the selectors are its inputs
  pub new-inputs : HasInputs (range_with_len 1 (selectors_of e)) new
  new-inputs =
      subst (λ (xs : List ℕ). HasInputs xs new) makes.inputs
      (HasInputs-Follows (HasInputs-start folding) f makes.scoped)

  -- it has the clauses of a new circuit, then the template's
  pub new-clauses : new.clauses ≡ (start folding).clauses ++ flat_map added (slot_clauses_of e)
  unfolding template ◌>>=◌
  new-clauses =
      let n = start folding in
      let es = (inputs (selectors_of e) (place_of n)).events in
      let fs = (told (slot_clauses_of e) (past (place_of n) es)).events in
      ap (λ (m : Net). m.clauses) (f.circuit ∙ built-append n es fs)
      ∙ after_told (slot_clauses_of e) (built n es) (past (place_of n) es)
      ∙ ap (λ (l : List (List ℕ)). l ++ flat_map added (slot_clauses_of e)) (after_inputs (selectors_of e) n)

  -- what satisfies it decodes to a tuple that derives
  pub new-derived : IsEncoding e → (v : ℕ → Bool) → Satisfies v new.clauses → IsDerivedTuple e (decoded e v)
  new-derived is v h =
      let es = (template e (place_of (start folding))).events in
      let met = (Satisfies-built v folding es).0 (rw f.circuit at h) in
      tuple_derives e is v (template_from e v (place_of (start folding)) met.1)

  -- each tuple that derives is decoded from what satisfies it
  pub new-reached : IsEncoding e → (ts : List Tree) → IsDerivedTuple e ts
      → (v : ℕ → Bool) × Satisfies v new.clauses × (decoded e v ≡ ts)
  new-reached is ts h =
      let r = tuple_chosen e is ts h in
      let v = value_at (true ∷ r.0) in
      let agrees = agrees-value v r.0 (λ y l. refl) in
      let es = (template e (place_of (start folding))).events in (
        v,
        rw f.circuit
            ((Satisfies-built v folding es).1 (refl, template_to e v (place_of (start folding)) (r.1.meets v agrees))),
        r.1.gives v agrees,
      )
