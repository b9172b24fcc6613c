-- A translation that grows by one chain.
use Rattle.std.proofs.Common.{ℕ, ◌≡◌, ◌+◌, ◌^◌, true, ◌≤◌, List, [], ◌∷◌, ◌++◌, All, drop, length, map, take, refl, ap}
use Rattle.std.proofs.Common.{◌∙◌, append_assoc, length-append, arith}
use Rattle.std.specs.Prelude.{None, Ok, Some, slice_get}
use Rattle.std.proofs.lemmas.List.{drop_more, length-map, map-append}
use Rattle.std.proofs.lemmas.List.Elements.{All-push}
use Rattle.std.proofs.lemmas.Option.{get_or_from_slice_get, slice_get_within}
use Rattle.std.proofs.Math.Seq.{take-append_seam}
use Rattle.am_lit.specs.Literal.{opposite_of}
use Rattle.am_lit.specs.UnitRow.{IsConsistent}
use Rattle.am_chain.specs.declared.chain.Chain.{Chain}
use Rattle.am_chain.specs.Chains.{clause_of}
use Rattle.am_chain.specs.Checked.{Checked, all_clauses}
use Rattle.am_chain.specs.Replay.{replay}
use Rattle.am_chain.proofs.Laws.{ok_parts}
use Rattle.am_hint.specs.declared.hint.Hint.{Hint}
use Rattle.am_hint.specs.Hints.{hint_fault, is_normal, propagation_fault}
use Rattle.am_hint.specs.HintReplay.{hint_clauses}
use Rattle.am_hint.specs.inside.Translated.{AreMoved, AreTranslated, NewNumbers, clauses_before}
use Rattle.am_hint.proofs.Laws.{hints_grow, passes_where}
use Rattle.am_hint.proofs.Earlier.{with_clause}
use Rattle.am_hint.proofs.Renumbered.{push_hinted, push_left_out}

-- new numbers with one more chain's
abbrev pub with_number : NewNumbers → ℕ → NewNumbers
with_number numbers number = record { given = numbers.given; chains = numbers.chains ++ number ∷ [] }

module _ (vars : ℕ) (k : Checked) (numbers : NewNumbers) (hints : List Hint) (are : AreTranslated vars k numbers hints)
    (c : List ℕ) (number : ℕ) where
  more_derived : length (k.derived ++ c ∷ []) ≡ length k.derived + 1
  more_derived = omega (arith, length-append k.derived (c ∷ []))

  -- a chain whose clause gets a hint
  pub hint_added : (hint : Hint) → hint.clause ≡ c → number ≡ length k.given + length hints
      → hint_fault vars (k.given ++ hint_clauses hints) hint ≡ None → length hint.by ≤ 2 ^ 30
      → AreTranslated vars (with_clause k c) (with_number numbers number) (hints ++ hint ∷ [])
  hint_added hint is here passes short =
      let clauses : hint_clauses (hints ++ hint ∷ []) ≡ hint_clauses hints ++ c ∷ [] =
      map-append (λ (h : Hint). h.clause) hints (hint ∷ []) ∙ ap (λ d. hint_clauses hints ++ d ∷ []) is in
      let place : number ≡ length k.given + length (hint_clauses hints) =
      omega (arith, here, length-map hints (λ (h : Hint). h.clause)) in
      record {
        pass = hints_grow vars k.given hints hint are.pass passes;
        given = are.given;
        moved = rw clauses (push_hinted k.given k.derived (hint_clauses hints) numbers.chains are.moved c number place);
        few = omega (arith, more_derived, length-append hints (hint ∷ []), are.few);
        short = All-push (λ (h : Hint). length h.by ≤ 2 ^ 30) hints hint are.short short;
      }

  -- a chain that is left out
  pub left_out : ¬ (IsConsistent c) → AreTranslated vars (with_clause k c) (with_number numbers number) hints
  left_out twice = record {
    pass = are.pass;
    given = are.given;
    moved = push_left_out k.given k.derived (hint_clauses hints) numbers.chains are.moved c number twice;
    few = omega (arith, more_derived, are.few);
    short = are.short;
  }

module _ (vars : ℕ) (k after : Checked) (numbers : NewNumbers) (hints : List Hint)
    (are : AreTranslated vars k numbers hints) (c : List ℕ) (grown : after ≡ with_clause k c) where
  -- the clauses before a chain's are those that the checker held
  pub before_newest : clauses_before after (length numbers.chains) ≡ all_clauses k
  before_newest = rw (grown, are.moved.long, take-append_seam k.derived (c ∷ [])) refl

  -- where the numbers of a hint end with yes, and its clause is normal, it passes
  pub hint_passes : (row by : List ℕ) → row ≡ map opposite_of c → is_normal vars c ≡ true
      → ((hinted : List (List ℕ))
      → AreMoved after.given (take (length numbers.chains) after.derived) hinted numbers.chains
      → propagation_fault (after.given ++ hinted) row 0 by ≡ None)
      → hint_fault vars (k.given ++ hint_clauses hints) (record { clause = c; by = by }) ≡ None
  hint_passes row by is normal ends =
      let given : after.given ≡ k.given = ap (λ (x : Checked). x.given) grown in
      let derived : take (length numbers.chains) after.derived ≡ k.derived =
      rw (grown, are.moved.long) (take-append_seam k.derived (c ∷ [])) in
      let passes = ends (hint_clauses hints) (rw (given, derived) are.moved) in
      passes_where vars (k.given ++ hint_clauses hints) (record { clause = c; by = by }) normal
      (rw (given, is) at passes)

-- what holds of all clauses, and of a further one, holds of all with it
pub All-with_clause : (P : List ℕ → Type 0) (k : Checked) (c : List ℕ) → All P (all_clauses k) → P c
    → All P (all_clauses (with_clause k c))
All-with_clause P k c all here = rw (append_assoc k.given k.derived (c ∷ [])) at (All-push P (all_clauses k) c all here)

-- the first chain that is left of a valid log is valid, and the log goes on after it
pub next_valid : (given derived all : List (List ℕ)) (log : List Chain) (i : ℕ) (chain : Chain)
    → slice_get log i ≡ Some chain → replay given derived (drop i log) ≡ Ok all
    → (c : List ℕ) × (clause_of (given ++ derived) chain ≡ Ok c)
    × (replay given (derived ++ c ∷ []) (drop (i + 1) log) ≡ Ok all)
next_valid given derived all log i chain there e =
    let rest : drop i log ≡ chain ∷ drop (i + 1) log = drop_more log i chain (slice_get_within log i chain there)
    ∙ ap (λ x. x ∷ drop (i + 1) log) (get_or_from_slice_get log i chain chain there) in
    ok_parts (clause_of (given ++ derived) chain) (λ c. replay given (derived ++ c ∷ []) (drop (i + 1) log))
    (λ f. record { chain = length derived; fault = f }) all (rw rest at e)
