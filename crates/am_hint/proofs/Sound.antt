-- Why a hint that passes convinces: the clauses it may name and the opposites of its literals don't hold together.
use Rattle.std.proofs.Common.{ℕ, ◌≡◌, ◌+◌, Bool, true, false, cond, not, List, [], ◌∷◌, ◌++◌, get_or, map, refl}
use Rattle.std.proofs.Common.{ap, ◌∙◌, inl, inr}
use Rattle.std.specs.Prelude.{Contains, IsTrue, Option, Some, None, slice_get}
use Rattle.std.proofs.lemmas.Bool.{both_ways, false_from_ne_true, not_from_false, true_from_ne_false}
use Rattle.std.proofs.lemmas.Option.{get_or_from_slice_get, slice_get_within}
use Rattle.std.proofs.lemmas.List.Elements.{All-contains, All-map, All-push, Contains-get_or}
use Rattle.am_lit.specs.Literal.{opposite_of}
use Rattle.am_lit.specs.Truth.{AllHold, Implies, Satisfies, clause_value, literal_value}
use Rattle.am_lit.proofs.Laws.{Contains-cons_cases, Contains-filter, Contains-nil, clause_holds}
use Rattle.am_lit.proofs.Laws.{literal_value-opposite_of, true_literal}
use Rattle.am_hint.specs.declared.fault.HintFault.{HintFault}
use Rattle.am_hint.specs.declared.fault.HintWhy.TheVariants.{NoClause, NotNormal, NotUnit}
use Rattle.am_hint.specs.declared.hint.Hint.{Hint}
use Rattle.am_hint.specs.declared.status.Status.{Status}
use Rattle.am_hint.specs.declared.status.Status.TheVariants.{Forces, Open}
use Rattle.am_hint.specs.Hints.{fault, hint_fault, is_hinted_in, is_normal, match_option, match_status, not_false}
use Rattle.am_hint.specs.Hints.{propagation_fault, status_by, status_of}
use Rattle.am_hint.proofs.Truths.{Contains-is_in}

-- where the literals of a row hold, a true literal of a clause isn't false in the row
true_left : (w : ℕ → Bool) (row c : List ℕ) (m : ℕ) → AllHold w row → Contains c m → literal_value w m ≡ true
    → Contains (not_false row c) m
true_left w row c m holds there t =
    let n = opposite_of m in
    let absent : is_hinted_in row n ≡ false = false_from_ne_true (is_hinted_in row n) (λ h.
    let holds_too = All-contains (λ l. IsTrue (literal_value w l)) row n holds (Contains-is_in row n h) in
    both_ways (literal_value w n) (literal_value-opposite_of w m ∙ ap not t) holds_too) in
    Contains-filter (λ l. not (is_hinted_in row (opposite_of l))) c m there (not_from_false (is_hinted_in row n) absent)

module _ (w : ℕ → Bool) (clauses : List (List ℕ)) (satisfied : Satisfies w clauses) where
  -- what comes after a clause of this status
  abbrev after_status : List ℕ → ℕ → List ℕ → Status → Option HintFault
  after_status row place by status =
      let rest = λ (l : ℕ). propagation_fault clauses (row ++ l ∷ []) (place + 1) by in
      match_status status None rest (Some (fault place NotUnit))

  -- the later numbers lead to no conflict, whichever literal that holds is made true before
  abbrev NoneLater : List ℕ → ℕ → List ℕ → Type 0
  NoneLater row place by =
      (l : ℕ) → AllHold w (row ++ l ∷ []) → ¬ (propagation_fault clauses (row ++ l ∷ []) (place + 1) by ≡ None)

  -- nor does a clause of which a literal that holds is left
  clause_taken : (row left by : List ℕ) (place m : ℕ) → AllHold w row → Contains left m → literal_value w m ≡ true
      → NoneLater row place by → ¬ (after_status row place by (status_by row left) ≡ None)
  clause_taken row [] by place m holds there t rest e = Contains-nil m there
  clause_taken row (l ∷ []) by place m holds there t rest e = go (is_hinted_in row l) e where
    same : l ≡ m
    same = elim (Contains-cons_cases l [] m there) [ inl e ↦ e | inr none ↦ absurd (Contains-nil m none) ]

    go : (b : Bool) → ¬ (after_status row place by (cond b Open (Forces l)) ≡ None)
    go true e = cc
    go false e = rest l (All-push (λ k. IsTrue (literal_value w k)) row l holds (rw same t)) e
  clause_taken row (l ∷ n ∷ ns) by place m holds there t rest e = cc

  number_taken : (row : List ℕ) (place number : ℕ) (by : List ℕ) → AllHold w row → NoneLater row place by
      → ¬ (propagation_fault clauses row place (number ∷ by) ≡ None)
  number_taken row place number by holds rest e = go (slice_get clauses number) refl e where
    go : (o : Option (List ℕ)) → slice_get clauses number ≡ o
        → ¬ (match_option o (Some (fault place NoClause)) (λ c. after_status row place by (status_of row c)) ≡ None)
    go None is e = cc
    go (Some c) is e =
        let within = slice_get_within clauses number c is in
        let holds_there : clause_value w c ≡ true =
        rw (get_or_from_slice_get clauses number c c is) at (satisfied number c within) in
        let some = true_literal w c holds_there in
        let left = true_left w row c some.0 holds some.1 some.2 in
        clause_taken row (not_false row c) by place some.0 holds left some.2 rest e

  -- where the clauses and a row's literals hold, no numbers lead to a conflict
  no_conflict : (row : List ℕ) (place : ℕ) (by : List ℕ) → AllHold w row
      → ¬ (propagation_fault clauses row place by ≡ None)
  no_conflict row place [] holds e = cc
  no_conflict row place (number ∷ by) holds e =
      number_taken row place number by holds (λ l more. no_conflict (row ++ l ∷ []) (place + 1) by more) e

-- the opposites of a clause's literals hold where the clause isn't true
opposites_hold : (w : ℕ → Bool) (c : List ℕ) → clause_value w c ≡ false → AllHold w (map opposite_of c)
opposites_hold w c f = All-map (λ l. IsTrue (literal_value w l)) opposite_of c (λ k d lt.
    let l = get_or c k d in
    let there = Contains-get_or c k d lt in
    let untrue : literal_value w l ≡ false =
    false_from_ne_true (literal_value w l) (λ t. both_ways (clause_value w c) f (clause_holds w c l there t)) in
    literal_value-opposite_of w l ∙ ap not untrue)

-- where a hint passes, its numbers lead to a conflict
led_to_conflict : (normal : Bool) (outcome : Option HintFault) → cond normal outcome (Some (fault 0 NotNormal)) ≡ None
    → outcome ≡ None
led_to_conflict true outcome e = e
led_to_conflict false outcome e = cc

-- the clause of a hint that passes follows from the clauses that it may name
pub hints_are_sound : (vars : ℕ) (clauses : List (List ℕ)) (hint : Hint) → hint_fault vars clauses hint ≡ None
    → Implies clauses hint.clause
hints_are_sound vars clauses hint e = λ w satisfied.
    let row = map opposite_of hint.clause in
    let led = led_to_conflict (is_normal vars hint.clause) (propagation_fault clauses row 0 hint.by) e in
    true_from_ne_false (clause_value w hint.clause) (λ untrue.
    no_conflict w clauses satisfied row 0 hint.by (opposites_hold w hint.clause untrue) led)

-- a hint of a normal clause passes where its numbers lead to a conflict
pub passes_where : (vars : ℕ) (clauses : List (List ℕ)) (hint : Hint) → is_normal vars hint.clause ≡ true
    → propagation_fault clauses (map opposite_of hint.clause) 0 hint.by ≡ None → hint_fault vars clauses hint ≡ None
passes_where vars clauses hint normal led = rw normal led
