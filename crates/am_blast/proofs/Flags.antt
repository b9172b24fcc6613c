-- A test as a word.
use Rattle.std.proofs.Common.{◌≡◌, ℕ, ◌+◌, ◌-◌, ◌*◌, ◌<◌, ◌≤◌, Bool, true, false, refl, arith}
use Rattle.std.specs.Prelude.{IsTrue}
use Rattle.std.proofs.lemmas.List.{length-replicate}
use Rattle.am_gate.specs.Build.{Step, Place, Means}
use Rattle.am_gate.proofs.Laws.{Means-bind, Means-answer, Makes-bind, Makes-answer}
use Rattle.am_gate.specs.Circuit.{IsLiteral}
use Rattle.am_gate.specs.Promises.{MakesGates}
use Rattle.am_lit.specs.Truth.{literal_value}
use Rattle.am_bv.specs.Words.{one_if}
use Rattle.am_blast.specs.Words.{bit, ReadsAs, IsWord}
use Rattle.am_blast.specs.Comparisons.{flagged}
use Rattle.am_blast.proofs.Words.{reads-zeros, IsWord-flag}

-- a flag reads as 1 where its test holds, else as 0
pub Means-flagged : (v : ℕ → Bool) (w : ℕ) (test : Step ℕ) (holds : Bool) → 1 ≤ w → IsTrue (v 0) →
    Means v test (λ l. literal_value v l ≡ holds) → Means v (flagged w test) (ReadsAs v w (one_if holds))
unfolding flagged
Means-flagged v w test holds one t means =
    Means-bind _ means
    (λ l h. Means-answer _ (record {
      bits = rw length-replicate (omega (arith, one));
      value = rw (h, reads-zeros v (w - 1) t) (same holds);
    }))
  where
    same : (b : Bool) → bit b + 2 * 0 ≡ one_if b
    same true = refl
    same false = refl

-- the gates of a flag are those of its test
pub Makes-flagged : (w k : ℕ) (test : Step ℕ) (p : Place) → 1 ≤ w → 0 < p.next → MakesGates test k IsLiteral p →
    MakesGates (flagged w test) k (IsWord w) p
unfolding flagged
Makes-flagged w k test p one pos makes =
    Makes-bind _ 0 makes (omega arith)
    (λ l q e h. Makes-answer _ (IsWord-flag w q.next l one (omega (arith, pos, e)) h))
