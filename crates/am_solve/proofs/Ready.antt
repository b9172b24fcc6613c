-- Each variable is held, for a later decision, or has a value.
use Rattle.std.proofs.Common.{ℕ, ◌≡◌, ◌+◌, ◌<◌, ◌≤◌, suc, Bool, List, [], ◌∷◌, ◌++◌, length, map, get_or, set, take}
use Rattle.std.proofs.Common.{drop, replicate, sym, ap, ◌∙◌, inl, inr, arith}
use Rattle.std.specs.Prelude.{Contains, ◌⊎◌}
use Rattle.std.specs.List.{range_with_len}
use Rattle.std.proofs.Math.Seq.{drop-cons}
use Rattle.std.proofs.lemmas.List.{drop_all, length-replicate, length-set, map-append, take-append-drop}
use Rattle.am_trail.proofs.Laws.{in_range}
use Rattle.std.proofs.lemmas.List.Elements.{Contains-append_cases, Contains-append_left, Contains-append_right}
use Rattle.am_lit.specs.Literal.{variable_of}
use Rattle.am_lit.proofs.Laws.{Contains-cons_cases, Contains-head, Contains-nil, same_or}
use Rattle.am_trail.specs.Orders.{HoldsAllBut, HoldsAlso, Ranked}
use Rattle.am_trail.specs.Trails.{HasValue, literals}
use Rattle.am_trail.specs.declared.entry.Entry.{Entry}
use Rattle.am_solve.specs.inside.Choosing.{IsReady, IsTotal, KeepsHeld}

-- at first all variables are held
pub ready_start : (vars : ℕ) (phases : List Bool) → length phases ≡ vars
    → IsReady (record { activities = replicate vars 0; held = range_with_len 0 vars }) phases vars []
ready_start vars phases long = record {
  activities = length-replicate vars 0;
  phases_len = long;
  held = λ v lt. inl (in_range vars v lt);
}

-- a value stays when entries come
pub value_more : (es more : List Entry) (v : ℕ) → HasValue es v → HasValue (es ++ more) v
value_more es more v h =
    rw (map-append (λ (e : Entry). e.literal) es more, map-append variable_of (literals es) (literals more))
    (Contains-append_left (map variable_of (literals es)) (map variable_of (literals more)) v h)

-- a value comes from the first entries or from the others
pub value_cases : (es more : List Entry) (v : ℕ) → HasValue (es ++ more) v → HasValue es v ⊎ HasValue more v
value_cases es more v h =
    Contains-append_cases (map variable_of (literals es)) (map variable_of (literals more)) v
    (rw (map-append (λ (e : Entry). e.literal) es more, map-append variable_of (literals es) (literals more)) at h)

-- entries that come leave each variable held or valued
pub ready_more : (order : Ranked) (phases : List Bool) (vars : ℕ) (es more : List Entry) → IsReady order phases vars es
    → IsReady order phases vars (es ++ more)
ready_more order phases vars es more r = record {
  activities = r.activities;
  phases_len = r.phases_len;
  held = λ v lt. elim (r.held v lt) [ inl h ↦ inl h | inr h ↦ inr (value_more es more v h) ];
}

-- so does a change of activities
pub ready_kept : (old new : Ranked) (phases : List Bool) (vars : ℕ) (es : List Entry) → KeepsHeld old new
    → IsReady old phases vars es
    → IsReady new phases vars es
ready_kept old new phases vars es k r = record {
  activities = k.activities ∙ r.activities;
  phases_len = r.phases_len;
  held = rw k.held r.held;
}

-- where nothing is held, each variable has a value
pub none_held : (order : Ranked) (phases : List Bool) (vars : ℕ) (es : List Entry) → order.held ≡ []
    → IsReady order phases vars es
    → IsTotal vars es
none_held order phases vars es none r = λ v lt. elim (rw none at (r.held v lt)) [
  | inl h ↦ absurd (Contains-nil v h)
  | inr h ↦ h
]

-- a variable that has a value was taken
pub ready_taken : (v : ℕ) (old new : Ranked) (phases : List Bool) (vars : ℕ) (es : List Entry) → HoldsAllBut v old new
    → HasValue es v → IsReady old phases vars es
    → IsReady new phases vars es
ready_taken v old new phases vars es but valued r = record {
  activities = ap length but.activities ∙ r.activities;
  phases_len = r.phases_len;
  held = λ w lt. elim (same_or w v) [
    | inl e ↦ inr (rw e valued)
    | inr ne ↦ elim (r.held w lt) [ inl h ↦ inl ((but.held w).1 (h, ne)) | inr h ↦ inr h ]
  ];
}

-- a variable was taken, and is decided
pub ready_decided : (v : ℕ) (old new : Ranked) (phases : List Bool) (vars : ℕ) (es : List Entry) (l : ℕ) (e : Entry)
    → HoldsAllBut v old new → variable_of l ≡ v → e.literal ≡ l → IsReady old phases vars es
    → IsReady new phases vars (es ++ e ∷ [])
ready_decided v old new phases vars es l e but is at r = record {
  activities = ap length but.activities ∙ r.activities;
  phases_len = r.phases_len;
  held = λ w lt. elim (same_or w v) [
    | inl same ↦ inr (rw (same, ← is, ← at) (last_value es e))
    | inr ne ↦ elim (r.held w lt) [ inl h ↦ inl ((but.held w).1 (h, ne)) | inr h ↦ inr (value_more es (e ∷ []) w h) ]
  ];
} where
  last_value : (es : List Entry) (e : Entry) → HasValue (es ++ e ∷ []) (variable_of e.literal)
  last_value es e =
      rw (map-append (λ (x : Entry). x.literal) es (e ∷ []), map-append variable_of (literals es) (literals (e ∷ [])))
      (Contains-append_right (map variable_of (literals es)) (variable_of e.literal ∷ []) (variable_of e.literal)
      (Contains-head (variable_of e.literal) []))

-- a return so far: the variables of the entries from a place on are held, or among those that are still to come
pub record IsGivenBack (order : Ranked) (phases : List Bool) (vars : ℕ) (es : List Entry) (start i : ℕ) : Type 0 where
  pub activities : length order.activities ≡ vars
  pub phases_len : length phases ≡ vars
  pub held : (v : ℕ) → v < vars → Contains order.held v ⊎ HasValue (take start es) v ⊎ HasValue (drop i es) v

-- before the return, the entries from its place on are still to come
pub given_none : (order : Ranked) (phases : List Bool) (vars : ℕ) (es : List Entry) (start : ℕ)
    → IsReady order phases vars es
    → IsGivenBack order phases vars es start start
given_none order phases vars es start r = record {
  activities = r.activities;
  phases_len = r.phases_len;
  held = λ v lt. elim (r.held v lt) [
    | inl h ↦ inl h
    | inr h ↦ inr (value_cases (take start es) (drop start es) v (rw (take-append-drop start es) h))
  ];
}

-- one more variable is held again
pub given_more : (order next : Ranked) (phases : List Bool) (vars : ℕ) (es : List Entry) (start i v : ℕ) (b : Bool)
    (d : Entry)
    → i < length es → v ≡ variable_of (get_or es i d).literal → HoldsAlso v order next
    → IsGivenBack order phases vars es start i → IsGivenBack next (set phases v b) vars es start (i + 1)
given_more order next phases vars es start i v b d lt is also g = record {
  activities = ap length also.activities ∙ g.activities;
  phases_len = length-set phases v b ∙ g.phases_len;
  held = λ w low. elim (g.held w low) [
    | inl h ↦ inl ((also.held w).1 (inl h))
    | inr (inl h) ↦ inr (inl h)
    | inr (inr h) ↦ elim (head_or w h) [
      | inl e ↦ inl ((also.held w).1 (inr e))
      | inr t ↦ inr (inr t)
    ]
  ];
} where
  head_or : (w : ℕ) → HasValue (drop i es) w → (w ≡ v) ⊎ HasValue (drop (i + 1) es) w
  head_or w h =
      let e : suc i ≡ i + 1 = omega arith in
      elim (Contains-cons_cases (variable_of (get_or es i d).literal) (map variable_of (literals (drop (suc i) es))) w
      (rw (drop-cons es i d lt) at h)) [
        | inl same ↦ inl (sym same ∙ sym is)
        | inr t ↦ inr (rw (← e) t)
      ]

-- after the return each variable is held or has a value
pub given_all : (order : Ranked) (phases : List Bool) (vars : ℕ) (es low : List Entry) (start i : ℕ) → length es ≤ i
    → take start es ≡ low → IsGivenBack order phases vars es start i
    → IsReady order phases vars low
given_all order phases vars es low start i le is g = record {
  activities = g.activities;
  phases_len = g.phases_len;
  held = λ v lt. elim (g.held v lt) [
    | inl h ↦ inl h
    | inr (inl h) ↦ inr (rw (← is) h)
    | inr (inr h) ↦ absurd (Contains-nil v (rw (drop_all i es le) at h))
  ];
}
