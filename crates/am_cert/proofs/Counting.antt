-- How many negative examples there are after a last turn.
use Rattle.std.proofs.Common.{◌≡◌, ℕ, List, [], ◌∷◌, ◌++◌, refl}
use Rattle.am_query.specs.declared.turn.Turn.{Turn}
use Rattle.am_cert.specs.Grammar.{negative_count, negatives_after, negatives_from}

from_append : (count : ℕ) (front : List Turn) (t : Turn) →
    negatives_from count (front ++ t ∷ []) ≡ negatives_after (negatives_from count front) t
from_append count [] t = refl
from_append count (u ∷ front) t = from_append (negatives_after count u) front t

-- a last turn alone decides, with those before it
pub count_after : (front : List Turn) (t : Turn) →
    negative_count (front ++ t ∷ []) ≡ negatives_after (negative_count front) t
count_after front t = from_append 0 front t
