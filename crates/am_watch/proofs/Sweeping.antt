-- What a sweep over watchers, and one over fresh clauses, leaves.
use Rattle.std.proofs.Common.{ℕ, ◌≡◌, ◌+◌, ◌*◌, ◌<◌, ◌≤◌, List, length, get_or, set, refl, sym, ap, ◌∙◌, inl, inr}
use Rattle.std.proofs.Common.{arith, length-append}
use Rattle.std.specs.Prelude.{Contains, ◌⊎◌}
use Rattle.std.proofs.lemmas.List.{get_or-set_same, get_or-map, get_or_append_left}
use Rattle.am_lit.specs.Literal.{opposite_of}
use Rattle.am_lit.proofs.Laws.{opposite_of-opposite_of}
use Rattle.am_trail.specs.declared.entry.Entry.{Entry}
use Rattle.am_trail.specs.Trails.{Assigned, literals}
use Rattle.am_watch.specs.declared.watcher.Watcher.{Watcher}
use Rattle.am_watch.specs.declared.watcher.Pair.{Pair}
use Rattle.am_watch.specs.Pairs.{IsPairOf, pair_at}
use Rattle.am_watch.specs.inside.Rows.{IsCutAt, IsKeptAt, IsLonger}
use Rattle.am_watch.specs.Watching.{clause_at, Extends, KeepsWatches, IsGuarded, IsTrueIn}
use Rattle.am_watch.proofs.Extending.{true_still}
use Rattle.am_watch.proofs.Keeping.{with_watcher, with_pair, without_fresh}
use Rattle.am_lit.proofs.Laws.{same_or}

-- the first watchers of a list have true clauses
abbrev pub AreDone : List (List ℕ) → List Watcher → List Entry → ℕ → Type 0
AreDone clauses row entries j = (k : ℕ) (d : Watcher) → k < j
    → IsTrueIn entries (clause_at clauses (get_or row k d).clause)

-- the first fresh clauses are true
abbrev pub AreTrue : List (List ℕ) → List ℕ → List Entry → ℕ → Type 0
AreTrue clauses fresh entries j = (k d : ℕ) → k < j → IsTrueIn entries (clause_at clauses (get_or fresh k d))

module _ (clauses : List (List ℕ)) (t u : Assigned) (x : Extends clauses t u) where
  -- one more stays
  pub done_more : (row new : List Watcher) (j : ℕ) → IsKeptAt j row new → AreDone clauses row t.entries j
      → ((d : Watcher) → IsTrueIn u.entries (clause_at clauses (get_or new j d).clause))
      → AreDone clauses new u.entries (j + 1)
  done_more row new j kept done here k d lt = elim (same_or k j) [
    | inl e ↦ rw e (here d)
    | inr ne ↦
        let before : k < j = omega arith in
        rw (kept.begins k d before) (true_still clauses t u x (clause_at clauses (get_or row k d).clause)
        (done k d before))
  ]

  -- one goes
  pub done_cut : (row new : List Watcher) (j : ℕ) → IsCutAt j row new → AreDone clauses row t.entries j
      → AreDone clauses new u.entries j
  done_cut row new j cut done k d lt = rw (cut.begins k d lt)
      (true_still clauses t u x (clause_at clauses (get_or row k d).clause) (done k d lt))

  -- one more fresh clause is true
  pub true_more : (fresh new : List ℕ) (j : ℕ) → new ≡ fresh → AreTrue clauses fresh t.entries j
      → ((d : ℕ) → IsTrueIn u.entries (clause_at clauses (get_or fresh j d))) → AreTrue clauses new u.entries (j + 1)
  true_more fresh new j same done here k d lt = rw same (elim (same_or k j) [
    | inl e ↦ rw e (here d)
    | inr ne ↦ true_still clauses t u x (clause_at clauses (get_or fresh k d)) (done k d (omega arith))
  ])

  -- one fresh clause goes, and those before it are true
  pub true_cut : (fresh new : List ℕ) (j : ℕ) → IsCutAt j fresh new → AreTrue clauses fresh t.entries j
      → AreTrue clauses new u.entries j
  true_cut fresh new j cut done k d lt =
      rw (cut.begins k d lt) (true_still clauses t u x (clause_at clauses (get_or fresh k d)) (done k d lt))

-- all are done
pub done_all : (clauses : List (List ℕ)) (row : List Watcher) (entries : List Entry) (j : ℕ) → length row ≤ j
    → AreDone clauses row entries j → (x : Watcher) → Contains row x → IsTrueIn entries (clause_at clauses x.clause)
done_all clauses row entries j le done x h = rw h.2 at (done h.0 x (omega (arith, h.1)))

-- once the end is reached, all fresh clauses are true
pub true_all : (clauses : List (List ℕ)) (fresh : List ℕ) (entries : List Entry) (j : ℕ) → length fresh ≤ j
    → AreTrue clauses fresh entries j → (i : ℕ) → Contains fresh i → IsTrueIn entries (clause_at clauses i)
true_all clauses fresh entries j le done i h = rw h.2 at (done h.0 i (omega (arith, h.1)))

-- a fresh clause is watched from now on
module _ (lists mid new : List (List Watcher)) (pairs : List Pair) (fresh rest : List ℕ) (clauses : List (List ℕ))
    (t : Assigned) (i : ℕ) (p : Pair)
    (h : KeepsWatches lists pairs fresh clauses t) (there : Contains fresh i) (is : IsPairOf (clause_at clauses i) p)
    (first : IsGuarded t (clause_at clauses i) p.first) (second : IsGuarded t (clause_at clauses i) p.second)
    (to_first : IsLonger p.first (record { clause = i; blocker = p.second }) lists mid)
    (to_second : IsLonger p.second (record { clause = i; blocker = p.first }) mid new)
    (keeps : (x : ℕ) → Contains fresh x → Contains rest x ⊎ (x ≡ i)) (within : (x : ℕ) → Contains rest x
    → Contains fresh x) where
  lt : i < length clauses
  lt = h.in_range i there

  pair_now : pair_at (set pairs i p) i ≡ p
  pair_now = get_or-set_same pairs i p (record { first = 0; second = 0 }) (omega (arith, lt, h.numbers))

  h1 : KeepsWatches lists (set pairs i p) fresh clauses t
  h1 = with_pair lists pairs fresh clauses t h i p lt is (inl there)

  h2 : KeepsWatches mid (set pairs i p) fresh clauses t
  h2 = with_watcher lists (set pairs i p) fresh clauses t h1 p.first (record { clause = i; blocker = p.second }) mid
      to_first (record { number = lt; blocker = is.second; pair = rw pair_now is })

  h3 : KeepsWatches new (set pairs i p) fresh clauses t
  h3 = with_watcher mid (set pairs i p) fresh clauses t h2 p.second (record { clause = i; blocker = p.first }) new
      to_second (record { number = lt; blocker = is.first; pair = rw pair_now is })

  -- the invariant holds with its pair, its two watchers, and its number no longer fresh
  pub watched_now : KeepsWatches new (set pairs i p) rest clauses t
  watched_now = without_fresh new (set pairs i p) fresh clauses t h3 i rest keeps within (rw pair_now (inl (record {
    pair = is;
    first_listed = (
      record { clause = i; blocker = p.second },
      to_second.keeps p.first (record { clause = i; blocker = p.second }) to_first.there,
      refl,
    );
    second_listed = (record { clause = i; blocker = p.first }, to_second.there, refl);
    first_guarded = first;
    second_guarded = second;
  })))

-- the code of a literal stays one of the trail's, as the trail grows
pub code_still : (clauses : List (List ℕ)) (t u : Assigned) (n m l : ℕ) → Extends clauses t u → n ≡ 2 * t.vars
    → m ≡ 2 * u.vars → l < n → l < m
code_still clauses t u n m l x a b lt = omega (arith, x.vars)

-- the number that is read at a place is a fresh one
pub fresh_there : (fresh : List ℕ) (k i : ℕ) → k < length fresh → ((d : ℕ) → get_or fresh k d ≡ i) → Contains fresh i
fresh_there fresh k i lt is = (k, lt, is i)

-- all fresh numbers stay but the one that was at a place
pub keeps_at : (fresh new : List ℕ) (k i : ℕ) → ((d : ℕ) → get_or fresh k d ≡ i)
    → ((x : ℕ) → Contains fresh x → Contains new x ⊎ ((d : ℕ) → x ≡ get_or fresh k d)) → (x : ℕ) → Contains fresh x
    → Contains new x ⊎ (x ≡ i)
keeps_at fresh new k i is keeps x h = elim (keeps x h) [ inl there ↦ inl there | inr at ↦ inr (at 0 ∙ is 0) ]

-- the literal of the entry at the head, when the trail has grown
pub head_literal : (clauses : List (List ℕ)) (t u : Assigned) (l x : ℕ) → Extends clauses t u → u.head ≡ t.head
    → t.head < length t.entries → x ≡ get_or (literals t.entries) t.head 0 → l ≡ opposite_of x
    → (d : Entry) → (get_or u.entries u.head d).literal ≡ opposite_of l
head_literal clauses t u l x ex head lt is by d =
    rw (head, ex.begins, get_or_append_left t.entries ex.more d t.head lt)
    (sym (get_or-map (λ (e : Entry). e.literal) t.entries t.head d 0 lt) ∙ sym is ∙ sym (opposite_of-opposite_of x)
    ∙ sym (ap opposite_of by))

-- the head stays before the end, as the trail grows
pub head_below : (clauses : List (List ℕ)) (t u : Assigned) → Extends clauses t u → u.head ≡ t.head
    → t.head < length t.entries → u.head < length u.entries
head_below clauses t u ex head lt = omega (arith, ap length ex.begins, length-append t.entries ex.more)
