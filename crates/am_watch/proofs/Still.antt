-- What stays of a clause's watching where lists and trail change.
use Rattle.std.proofs.Common.{ℕ, List, inl, inr}
use Rattle.std.specs.Prelude.{Contains, ◌⊎◌}
use Rattle.am_trail.specs.Trails.{Assigned}
use Rattle.am_watch.specs.declared.watcher.Watcher.{Watcher}
use Rattle.am_watch.specs.declared.watcher.Pair.{Pair}
use Rattle.am_watch.specs.Lists.{IsListed}
use Rattle.am_watch.specs.Watching.{IsGuarded, IsSafe, IsTrueUpTo}

module _ (lists new : List (List Watcher)) (t u : Assigned) (c : List ℕ) (i : ℕ) where
  -- a literal that is listed and guarded stays so
  abbrev pub StaysWatched : ℕ → Type 0
  StaysWatched l = IsListed lists l i → IsGuarded t c l → IsListed new l i × IsGuarded u c l

  -- a clause that is fresh or safe stays so where its watched literals do, and where it is true for good as before
  pub kept_still : (fresh : List ℕ) (p : Pair) → StaysWatched p.first → StaysWatched p.second
      → (IsTrueUpTo t.entries c 0 → IsTrueUpTo u.entries c 0)
      → Contains fresh i ⊎ IsSafe lists t c i p → Contains fresh i ⊎ IsSafe new u c i p
  kept_still fresh p first second true' (inl f) = inl f
  kept_still fresh p first second true' (inr (inl k)) =
      let one = first k.first_listed k.first_guarded in
      let two = second k.second_listed k.second_guarded in
      inr (inl (record {
        pair = k.pair;
        first_listed = one.0;
        second_listed = two.0;
        first_guarded = one.1;
        second_guarded = two.1;
      }))
  kept_still fresh p first second true' (inr (inr up)) = inr (inr (true' up))

  -- the same where any listed and guarded literal stays so
  pub all_still : (fresh : List ℕ) (p : Pair) → ((l : ℕ) → StaysWatched l)
      → (IsTrueUpTo t.entries c 0 → IsTrueUpTo u.entries c 0)
      → Contains fresh i ⊎ IsSafe lists t c i p → Contains fresh i ⊎ IsSafe new u c i p
  all_still fresh p still true' = kept_still fresh p (still p.first) (still p.second) true'
