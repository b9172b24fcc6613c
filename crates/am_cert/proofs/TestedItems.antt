-- Items that are tested in turn.
use Rattle.std.proofs.Common.{◌≡◌, ℕ, ◌+◌, ◌<◌, ◌≤◌, ◌↔◌, Bool, false, List, get_or, take, length, sym, ◌∙◌, subst}
use Rattle.std.specs.Prelude.{IsTrue}
use Rattle.std.specs.List.{All}
use Rattle.std.proofs.lemmas.Bool.{false≢true}
use Rattle.std.proofs.lemmas.List.{take_all, take_more}
use Rattle.std.proofs.lemmas.List.Elements.{All-push}
use Rattle.std.proofs.lemmas.Option.{slice_get-get_or}
use Rattle.am_query.proofs.Laws.{items_are_tested_in_turn}
use Rattle.am_query.specs.Acceptance.{each_is}
use Rattle.am_query.specs.declared.fault.Fault.{Fault}

module _ {A : Type 0} (Good : A → Type 0) (items : List A) (i : ℕ) (so_far : All Good (take i items)) where
  -- all items are good
  pub good_passes : (fault : ℕ → Fault) → length items ≤ i → (each_is Good fault 0 items).Passes
  good_passes fault past =
      (items_are_tested_in_turn A Good fault items).0 (subst (All Good) (take_all i items past) so_far)

  module _ (x : A) (within : i < length items) (here : x ≡ get_or items i x) where
    -- one more item is good
    pub good_more : Good x → All Good (take (i + 1) items)
    good_more good =
        let pushed = All-push Good (take i items) (get_or items i x) so_far (subst Good here good) in
        subst (All Good) (sym (take_more items i x within)) pushed

    -- the first bad item tells the fault
    pub bad_fails : (fault : ℕ → Fault) → ¬ Good x → (each_is Good fault 0 items).Fails (fault i)
    bad_fails fault bad =
        (items_are_tested_in_turn A Good fault items).1 i (get_or items i x) so_far (slice_get-get_or items i x within)
        (λ good. bad (subst Good (sym here) good))

-- an item whose test is false is bad
pub untrue : {P : Type 0} (answer : Bool) → IsTrue answer ↔ P → answer ≡ false → ¬ P
untrue answer told false_here holds = false≢true (sym false_here ∙ told.1 holds)
