-- The words of a walk: words, each with more steps to it than the ones before.
use Rattle.std.proofs.Common.{ℕ, suc, ◌^◌, ◌<◌, List, slice_index, arith}
use Rattle.std.specs.Prelude.{All, AllPairs}
use Rattle.std.proofs.Math.Nat.{mod-lt}
use Rattle.std.proofs.lemmas.Nat.{pow_pos}
use Rattle.am_domain.specs.Tuple.{IsTuple}
use Rattle.am_domain.specs.Walk.{steps, walk}
use Rattle.am_domain.proofs.Laws.{steps-word, steps-upwards, length-upwards, get_or-upwards}

-- the words of a walk are words
pub All-walk : (w : ℕ) (a : List ℕ) → IsTuple w 2 a → All (λ c. c < 2 ^ w) (walk w a)
All-walk w a tuple i d below =
    let first = slice_index a 0 in
    let n = suc (steps w first (slice_index a 1)) in
    rw (get_or-upwards w n first i d (tuple.words 0) (omega (arith, below, length-upwards w n first)))
    (mod-lt _ (pow_pos w))

-- more and more steps lead to the words of a walk
pub AllPairs-walk : (w : ℕ) (a : List ℕ) → IsTuple w 2 a →
    AllPairs (λ c d. steps w (slice_index a 0) c < steps w (slice_index a 0) d) (walk w a)
AllPairs-walk w a tuple i j d order below =
    let first = slice_index a 0 in
    let n = suc (steps w first (slice_index a 1)) in
    let word = tuple.words 0 in
    let within : j < n = omega (arith, below, length-upwards w n first) in
    let most = steps-word w first (slice_index a 1) in
    rw (
      get_or-upwards w n first i d word (omega arith),
      get_or-upwards w n first j d word within,
      steps-upwards w first i word (omega arith),
      steps-upwards w first j word (omega arith),
    )
    order
