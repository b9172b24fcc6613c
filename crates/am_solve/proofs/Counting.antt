-- How many places are marked from a place on.
use Rattle.std.proofs.Common.{ℕ, ◌≡◌, ◌+◌, ◌-◌, ◌<◌, ◌≤◌, Bool, true, false, cond, List, [], ◌∷◌, ◌++◌, length, get_or}
use Rattle.std.proofs.Common.{set, drop, refl, sym, ap, ◌∙◌, inl, inr, arith, suc, eqb, length-drop}
use Rattle.std.specs.List.{count_by, sum_by, list_all}
use Rattle.std.proofs.lemmas.List.{get_or-set_same, get_or-set_other, get_or-drop, drop-set-lt, drop-set-add}
use Rattle.std.proofs.lemmas.List.{set-get_or, get_or_default, get_or_past}
use native.Mathlib.Decide.{dec_lt}
use Prim.{yes, no}
use Rattle.std.proofs.lemmas.List.Folds.{sum_by-zero}
use Rattle.std.proofs.lemmas.Bool.{eqb-true}
use Rattle.std.proofs.lemmas.List.Sums.{sum_by-set, count_by-le-length}
use Rattle.std.proofs.lemmas.List.Elements.{Contains-append_left, Contains-push, Contains-push_cases}
use Rattle.am_lit.specs.Literal.{opposite_of}
use Rattle.am_lit.proofs.Laws.{same_or, Contains-nil}
use Rattle.am_chain.specs.inside.Marks.{mark_at}
use Rattle.am_solve.specs.inside.Marking.{IsCounted}

-- what a written mark does to the count
pub count-set : (marks : List Bool) (start p : ℕ) (b : Bool) → start ≤ p → p < length marks
    → count_by (λ x. x) (drop start (set marks p b)) + cond (mark_at marks p) 1 0
    ≡ count_by (λ x. x) (drop start marks) + cond b 1 0
count-set marks start p b le lt =
    let at : start + (p - start) ≡ p = omega arith in
    let inside : p - start < length (drop start marks) = omega (arith, length-drop start marks) in
    let one : sum_by (λ x. cond x 1 0) (set (drop start marks) (p - start) b)
    + cond (get_or (drop start marks) (p - start) false) 1 0
    ≡ sum_by (λ x. cond x 1 0) (drop start marks) + cond b 1 0 =
    sum_by-set (λ x. cond x 1 0) (drop start marks) (p - start) b false inside in
    let read : get_or (drop start marks) (p - start) false ≡ mark_at marks p =
    get_or-drop start marks (p - start) false ∙ ap (mark_at marks) at in
    let written : drop start (set marks p b) ≡ set (drop start marks) (p - start) b =
    ap (λ n. drop start (set marks n b)) (sym at) ∙ drop-set-add start marks (p - start) b in
    rw (written, ← read) one

module _ (row : List ℕ) (start : ℕ) (marks : List Bool) (kept : List ℕ) (n : ℕ)
    (h : IsCounted row start marks kept n) where
  pub count_le : n ≤ length marks
  count_le = omega (arith, h.count, count_by-le-length (λ x. x) (drop start marks), length-drop start marks)

  module _ (p : ℕ) (lt : p < length marks) where
    -- a place before the start
    pub counted_low : (l : ℕ) → p < start → l ≡ opposite_of (get_or row p 0)
        → IsCounted row start (set marks p true) (kept ++ l ∷ []) n
    counted_low l lo is = record {
      count = h.count ∙ ap (count_by (λ x. x)) (sym (drop-set-lt start marks p true lo));
      has = λ m there. elim (Contains-push_cases kept l m there) [
        | inl old ↦ let k = h.has m old in (k.0, k.1, still k.0 k.2, k.3)
        | inr e ↦ (p, lo, get_or-set_same marks p true false lt, sym e ∙ is)
      ];
      gives = λ k lk on. elim (same_or k p) [
        | inl e ↦ rw (e, ← is) (Contains-push kept l)
        | inr ne ↦
            Contains-append_left kept (l ∷ []) (opposite_of (get_or row k 0))
            (h.gives k lk (sym (get_or-set_other marks p k true false ne) ∙ on))
      ];
    } where
      still : (k : ℕ) → mark_at marks k ≡ true → mark_at (set marks p true) k ≡ true
      still k on = elim (same_or k p) [
        | inl e ↦ rw e (get_or-set_same marks p true false lt)
        | inr ne ↦ get_or-set_other marks p k true false ne ∙ on
      ]

    -- a place from the start on
    other_place : (b : Bool) (k : ℕ) → start ≤ p → k < start → mark_at (set marks p b) k ≡ mark_at marks k
    other_place b k hi lk = get_or-set_other marks p k b false (λ e. absurd (omega arith))

    counted_at : (b : Bool) (c : ℕ) → start ≤ p → c ≡ count_by (λ x. x) (drop start (set marks p b))
        → IsCounted row start (set marks p b) kept c
    counted_at b c hi is = record {
      count = is;
      has = λ m there. let k = h.has m there in (k.0, k.1, other_place b k.0 hi k.1 ∙ k.2, k.3);
      gives = λ k lk on. h.gives k lk (sym (other_place b k hi lk) ∙ on);
    }

    -- it is marked, and counts one more
    pub counted_high : start ≤ p → mark_at marks p ≡ false → IsCounted row start (set marks p true) kept (n + 1)
    counted_high hi off =
        let one = rw off at (count-set marks start p true hi lt) in
        counted_at true (n + 1) hi (omega (arith, h.count, one))

    -- its mark goes, and counts one less
    pub counted_less : start ≤ p → mark_at marks p ≡ true
        → (0 < n) × IsCounted row start (set marks p false) kept (n - 1)
    counted_less hi on =
        let one = rw on at (count-set marks start p false hi lt) in
        (omega (arith, h.count, one), counted_at false (n - 1) hi (omega (arith, h.count, one)))

-- a mark that is there
pub set_again : (marks : List Bool) (p : ℕ) → mark_at marks p ≡ true → marks ≡ set marks p true
set_again marks p on = sym (ap (set marks p) (sym on) ∙ set-get_or marks p false)

all_off : (xs : List Bool) → ((k : ℕ) → mark_at xs k ≡ false) → list_all (λ x. eqb (cond x 1 0) 0) xs ≡ true
all_off [] h = refl
all_off (x ∷ xs) h = let here : x ≡ false = h 0 in rw here (all_off xs (λ k. h (suc k)))

pub count_none : (xs : List Bool) → ((k : ℕ) → mark_at xs k ≡ false) → count_by (λ x. x) xs ≡ 0
count_none xs h = eqb-true (count_by (λ x. x) xs) 0 (sum_by-zero (λ x. cond x 1 0) xs ∙ all_off xs h)

-- where no place is marked, none is kept or counted
pub counted_none : (row : List ℕ) (start : ℕ) (marks : List Bool) → ((k : ℕ) → mark_at marks k ≡ false)
    → IsCounted row start marks [] 0
counted_none row start marks off = record {
  count = sym (count_none (drop start marks) (λ k. get_or-drop start marks k false ∙ off (start + k)));
  has = λ m there. absurd (Contains-nil m there);
  gives = λ k lk on. let clash : false ≡ true = sym (off k) ∙ on in cc;
}

-- the mark that is read at a place is the one there
pub mark_read : (marks : List Bool) (p : ℕ) (b : Bool) → p < length marks → b ≡ get_or marks p b → mark_at marks p ≡ b
mark_read marks p b lt is = get_or_default marks p false b lt ∙ sym is

-- where something is counted, it stands before the places that aren't marked
pub start_below : (row : List ℕ) (start : ℕ) (marks : List Bool) (kept : List ℕ) (n i : ℕ)
    → IsCounted row start marks kept n → 0 < n → ((k : ℕ) → i ≤ k → mark_at marks k ≡ false)
    → start < i
start_below row start marks kept n i h some above = elim (dec_lt start i) [
  | yes lt ↦ lt
  | no ge ↦
      let le : i ≤ start = not_lt start i ge in
      let none : count_by (λ x. x) (drop start marks) ≡ 0 =
      count_none (drop start marks) (λ k. get_or-drop start marks k false ∙ above (start + k) (omega arith)) in
      absurd (omega (arith, none, h.count))
] where
  not_lt : (a b : ℕ) → ¬ (a < b) → b ≤ a
  not_lt a b f = elim (dec_lt a b) [ yes lt ↦ absurd (f lt) | no ge ↦ omega arith ]

-- a marked place is one of the marks' places
pub marked_in : (marks : List Bool) (p : ℕ) → mark_at marks p ≡ true → p < length marks
marked_in marks p on = elim (dec_lt p (length marks)) [
  | yes lt ↦ lt
  | no ge ↦
      let le : length marks ≤ p = omega arith in
      let clash : false ≡ true = sym (get_or_past marks p false le) ∙ on in
      absurd (cc)
]

-- where two are counted, the last one doesn't stand at the start
pub start_before : (row : List ℕ) (start : ℕ) (marks : List Bool) (kept : List ℕ) (n p : ℕ)
    → IsCounted row start marks kept n → 1 < n → start ≤ p → mark_at marks p ≡ true
    → ((k : ℕ) → p < k → mark_at marks k ≡ false)
    → start < p
start_before row start marks kept n p h two le on above =
    let lt = marked_in marks p on in
    let less = counted_less row start marks kept n h p lt le on in
    let some : 0 < n - 1 = omega arith in
    start_below row start (set marks p false) kept (n - 1) p less.1 some (λ k lk. elim (same_or k p) [
      | inl e ↦ rw e (get_or-set_same marks p false false lt)
      | inr ne ↦ get_or-set_other marks p k false false ne ∙ above k (omega arith)
    ])

-- where something is marked from the start on, something is counted
pub some_counted : (row : List ℕ) (start : ℕ) (marks : List Bool) (kept : List ℕ) (n p : ℕ)
    → IsCounted row start marks kept n → start ≤ p → mark_at marks p ≡ true
    → 0 < n
some_counted row start marks kept n p h le on = (counted_less row start marks kept n h p (marked_in marks p on) le on).0

-- a place that isn't marked, and none after it
pub below_last : (row : List ℕ) (start : ℕ) (marks : List Bool) (kept : List ℕ) (n i : ℕ) (b : Bool)
    → IsCounted row start marks kept n → 0 < n → i < length marks → b ≡ get_or marks i b → b ≡ false
    → ((k : ℕ) → i < k → mark_at marks k ≡ false) → (start < i) × ((k : ℕ) → i ≤ k → mark_at marks k ≡ false)
below_last row start marks kept n i b h some lt is off above =
    (start_below row start marks kept n i h some from, from) where
      from : (k : ℕ) → i ≤ k → mark_at marks k ≡ false
      from k le = elim (same_or k i) [
        | inl e ↦ rw e (mark_read marks i b lt is ∙ off)
        | inr ne ↦ above k (omega arith)
      ]
