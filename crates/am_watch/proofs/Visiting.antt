-- What a visit of a watcher says.
use Rattle.std.proofs.Common.{ℕ, ◌≡◌, ◌≢◌, ◌*◌, ◌<◌, List, [], length, get_or, set, sym, ap, ◌∙◌, inl, inr, arith}
use Rattle.std.specs.Prelude.{Contains}
use Rattle.std.proofs.lemmas.List.{get_or_default, get_or-set_other, get_or-set_same, length-set}
use Rattle.am_lit.specs.Literal.{opposite_of, variable_of}
use Rattle.am_trail.specs.declared.entry.Entry.{Entry}
use Rattle.am_trail.specs.Trails.{Assigned, literals}
use Rattle.am_watch.specs.declared.watcher.Watcher.{Watcher}
use Rattle.am_watch.specs.declared.watcher.Pair.{Pair}
use Rattle.am_watch.specs.Pairs.{other_of, pair_at}
use Rattle.am_watch.specs.Lists.{list_at}
use Rattle.am_watch.specs.inside.Rows.{IsKeptAt}
use Rattle.am_watch.specs.Watching.{clause_at, IsWatcher, KeepsWatches, IsTrueIn}
use Rattle.am_watch.specs.inside.Sweeps.{IsWatchTurn}
use Rattle.am_watch.proofs.Keeping.{with_blocker}
use Rattle.am_watch.proofs.Turning.{along, other_cases}

-- the code of a literal is below twice the number of variables
pub code_below : (l vars n : ℕ) → variable_of l < vars → n ≡ 2 * vars → l < n
code_below l vars n lt e = omega arith

module _ (lists : List (List Watcher)) (pairs : List Pair) (fresh : List ℕ) (clauses : List (List ℕ)) (t : Assigned)
    (l j : ℕ)
    (h : KeepsWatches lists pairs fresh clauses t) (place : j < length (list_at lists l)) (w : Watcher)
    (at : (d : Watcher)
    → w ≡ get_or (list_at lists l) j d) where
  -- what is read there is a watcher
  pub watcher : IsWatcher clauses pairs w
  watcher = h.watchers l w (j, place, sym (at w))

  -- its blocker's variable is one of the trail's
  pub blocker_var : variable_of w.blocker < t.vars
  blocker_var = h.variables w.clause w.blocker watcher.blocker

  -- its clause is true by a literal of it that is true
  pub true_by : (entries : List Entry) (m : ℕ) → Contains (clause_at clauses w.clause) m → Contains (literals entries) m
      → (d : Watcher) → IsTrueIn entries (clause_at clauses (get_or (list_at lists l) j d).clause)
  true_by entries m there true' d = rw (← at d) (m, there, true')

  pub here : (d : Watcher) → (get_or (list_at lists l) j d).clause ≡ w.clause
  here d = ap (λ (x : Watcher). x.clause) (sym (at d))

  module _ (o : ℕ) (p : Pair) (read : p ≡ get_or pairs w.clause p) (by : o ≡ other_of p l) where
    is : o ≡ other_of (pair_at pairs w.clause) l
    is = by ∙ ap (λ q. other_of q l) (read
        ∙ get_or_default pairs w.clause p (record { first = 0; second = 0 }) (omega (arith, watcher.number, h.numbers)))

    -- the other watched literal stands in the clause
    pub other_there : Contains (clause_at clauses w.clause) o
    other_there = elim (other_cases (pair_at pairs w.clause) l watcher.pair.differ).0 [
      | inl e ↦ along (Contains (clause_at clauses w.clause)) o _ (is ∙ e) watcher.pair.first
      | inr e ↦ along (Contains (clause_at clauses w.clause)) o _ (is ∙ e) watcher.pair.second
    ]

    -- it blocks from now on
    module _ (code : l < length lists) where
      -- the invariant holds
      pub blocked : KeepsWatches (set lists l (set (list_at lists l) j (record { clause = w.clause; blocker = o })))
          pairs
          fresh clauses t
      blocked = with_blocker lists pairs fresh clauses t h l j (record { clause = w.clause; blocker = o }) code place
          here other_there

      -- the list is as long, and stands as it did before that place
      pub blocked_kept : IsKeptAt j (list_at lists l)
          (list_at (set lists l (set (list_at lists l) j (record { clause = w.clause; blocker = o }))) l)
      blocked_kept =
          let b : Watcher = record { clause = w.clause; blocker = o } in
          rw (get_or-set_same lists l (set (list_at lists l) j b) [] code)
          (record {
            same = length-set (list_at lists l) j b;
            begins = λ k d lt. get_or-set_other (list_at lists l) j k b
                d (omega arith);
          })

      -- its clause is true where that literal is
      pub blocked_true : Contains (literals t.entries) o → (d : Watcher)
          → IsTrueIn t.entries (clause_at clauses
          (get_or (list_at (set lists l (set (list_at lists l) j (record { clause = w.clause; blocker = o }))) l) j
          d).clause)
      blocked_true true' d =
          let b : Watcher = record { clause = w.clause; blocker = o } in
          rw (
            get_or-set_same lists l (set (list_at lists l) j b) [] code,
            get_or-set_same (list_at lists l) j b d place,
          ) (o, other_there, true')

    -- it may turn to a literal of its clause that isn't false
    pub turns : (next : ℕ) → Contains (clause_at clauses w.clause) next → next ≢ o
        → ¬ (Contains (literals t.entries) (opposite_of next)) → Contains (literals t.entries) (opposite_of l)
        → IsWatchTurn lists pairs clauses (literals t.entries) l j w.clause o next
    turns next there ne unfalse untrue = record {
      place = place;
      number = watcher.number;
      here = here;
      pair = watcher.pair;
      other = is;
      next = there;
      differ = ne;
      unfalse = unfalse;
      untrue = untrue;
    }
