-- A watcher that turns to another literal of its clause.
use Rattle.std.proofs.Common.{ℕ, ◌≡◌, ◌≢◌, ◌<◌, Bool, true, false, cond, eqb, List, length, get_or, set, refl, sym, ap}
use Rattle.std.proofs.Common.{◌∙◌, inl, inr, arith}
use Rattle.std.specs.Prelude.{Contains, ◌⊎◌}
use Rattle.std.proofs.lemmas.Bool.{eqb-true, eqb-false}
use Rattle.std.proofs.lemmas.List.{get_or-set_same}
use Rattle.am_trail.specs.Trails.{Assigned, literals}
use Rattle.am_watch.specs.declared.watcher.Watcher.{Watcher}
use Rattle.am_watch.specs.declared.watcher.Pair.{Pair}
use Rattle.am_watch.specs.Pairs.{IsPairOf, other_of, pair_at}
use Rattle.am_watch.specs.Lists.{list_at, IsListed}
use Rattle.am_watch.specs.inside.Rows.{IsLonger, IsShorter, IsCutAt}
use Rattle.am_watch.specs.Watching.{clause_at, IsGuarded, IsSafe, IsWatched, KeepsWatches}
use Rattle.am_watch.specs.inside.Sweeps.{IsWatchTurn}
use Rattle.am_watch.proofs.Keeping.{guarded_open, with_watcher, with_pair, without_watcher}

-- what holds of a number holds of one that equals it
pub along : (P : ℕ → Type 0) (a b : ℕ) → a ≡ b → P b → P a
along P a b e h = rw e h

-- the other literal is one of the two, and not this one
pub other_cases : (p : Pair) (l : ℕ) → p.first ≢ p.second → ((other_of p l ≡ p.first) ⊎ (other_of p l ≡ p.second))
    × (other_of p l ≢ l)
other_cases p l differ = go (eqb p.first l) (eqb-true p.first l) (eqb-false p.first l) where
  go : (b : Bool) → (b ≡ true → p.first ≡ l) → (b ≡ false → p.first ≢ l)
      → ((cond b p.second p.first ≡ p.first) ⊎ (cond b p.second p.first ≡ p.second)) × (cond b p.second p.first ≢ l)
  go true y n = (inr refl, λ e. differ (y refl ∙ sym e))
  go false y n = (inl refl, n refl)

module _ (lists mid new : List (List Watcher)) (pairs : List Pair) (fresh : List ℕ) (clauses : List (List ℕ))
    (t : Assigned) (l j i other next : ℕ)
    (h : KeepsWatches lists pairs fresh clauses t)
    (turn : IsWatchTurn lists pairs clauses (literals t.entries) l j i other next) where
  abbrev pub w : Watcher
  w = record { clause = i; blocker = other }

  abbrev pub c : List ℕ
  c = clause_at clauses i

  apart : next ≢ l
  apart same = turn.unfalse (rw (← same) at turn.untrue)

  cases : ((other ≡ (pair_at pairs i).first) ⊎ (other ≡ (pair_at pairs i).second)) × (other ≢ l)
  cases = rw (← turn.other) at (other_cases (pair_at pairs i) l turn.pair.differ)

  other_there : Contains c other
  other_there = elim cases.0 [
    | inl e ↦ along (Contains c) other _ e turn.pair.first
    | inr e ↦ along (Contains c) other _
        e turn.pair.second
  ]

  module _ (longer : IsLonger next w lists mid) where
    pub row_same : list_at mid l ≡ list_at lists l
    row_same = longer.others l (λ e. apart (sym e))

    -- the watcher's place is still one of the list
    pub place_still : j < length (list_at mid l)
    place_still = rw row_same turn.place

    module _ (shorter : IsShorter l j mid new) where
      -- the list that loses the watcher stays as it was before that place
      pub cut_at : IsCutAt j (list_at lists l) (list_at new l)
      cut_at = record {
        shorter = shorter.shorter ∙ ap length row_same;
        begins = λ k d lt. shorter.begins k d lt
            ∙ ap (λ r. get_or r k d) row_same;
      }

      h1 : KeepsWatches mid pairs fresh clauses t
      h1 = with_watcher lists pairs fresh clauses t h next w mid longer
          (record { number = turn.number; blocker = other_there; pair = turn.pair })

      abbrev pub p : Pair
      p = record { first = other; second = next }

      is : IsPairOf c p
      is = record { first = other_there; second = turn.next; differ = λ e. turn.differ (sym e) }

      listed : IsWatched mid t c i (pair_at pairs i) → IsListed mid other i
      listed k = elim cases.0 [
        | inl e ↦ along (λ m. IsListed mid m i) other _ e k.first_listed
        | inr e ↦ along
            (λ m. IsListed mid m i) other _ e k.second_listed
      ]

      guarded : IsWatched mid t c i (pair_at pairs i) → IsGuarded t c other
      guarded k = elim cases.0 [
        | inl e ↦ along (IsGuarded t c) other _ e k.first_guarded
        | inr e ↦ along
            (IsGuarded t c) other _ e k.second_guarded
      ]

      kept : Contains fresh i ⊎ IsSafe mid t c i (pair_at pairs i) → Contains fresh i ⊎ IsSafe mid t c i p
      kept (inl f) = inl f
      kept (inr (inr true')) = inr (inr true')
      kept (inr (inl k)) = inr (inl (record {
        pair = is;
        first_listed = listed k;
        second_listed = (w, longer.there, refl);
        first_guarded = guarded k;
        second_guarded = guarded_open t c next turn.unfalse;
      }))

      h2 : KeepsWatches mid (set pairs i p) fresh clauses t
      h2 = with_pair mid pairs fresh clauses t h1 i p turn.number is (kept (h1.kept i turn.number))

      pair_now : pair_at (set pairs i p) i ≡ p
      pair_now = get_or-set_same pairs i p (record { first = 0; second = 0 }) (omega (arith, h.numbers, turn.number))

      -- the invariant holds with the watcher's new literal, and its clause's new pair
      pub turned : KeepsWatches new (set pairs i p) fresh clauses t
      turned = without_watcher mid (set pairs i p) fresh clauses t h2 l j i new shorter
          (λ d. ap (λ r. (get_or r j d).clause) row_same ∙ turn.here d)
          (rw pair_now cases.1) (rw pair_now apart)
