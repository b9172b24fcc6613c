use Rattle.std.proofs.Common.{◌≡◌, ℕ, ◌↔◌, map, take}
use Rattle.std.specs.List.{Any}
use Rattle.am_all.specs.inside.Cases.{AreIn}
use Rattle.am_all.specs.inside.Sets.{Has}
use Rattle.am_all.proofs.cases.images.Given as goal

abbrev pub invariant-loop-outcome : goal.invariant-loop-outcome
invariant-loop-outcome l = (c : ℕ) → Has l.images c ↔
    Any (λ o. AreIn (map (λ v. v.now) l.values) o.words × (c ≡ o.image)) (take l.outcome-index l.outcomes)
