use Rattle.std.proofs.Common.{◌≡◌, ◌+◌, ◌%◌, ◌^◌, take, slice_index}
use Rattle.std.specs.Prelude.{filter}
use Rattle.am_domain.specs.Laws.{is_member}
use Rattle.am_domain.specs.Walk.{walk}
use Rattle.am_pair.specs.Pairs.{hull_of_words}
use Rattle.am_pair.proofs.pair.Pair.hull_of_common.Given as goal

-- the next word of the walk, and the hull of the common words before it
abbrev pub invariant-loop-i : goal.invariant-loop-i
invariant-loop-i g l =
    let b = g.B.Domain.abstraction l.self.b in
    let words = filter (is_member l.w (b.member_term l.w) l.y) (take l._i (walk l.w l.x)) in
    (l.c ≡ (slice_index l.x 0 + l._i) % 2 ^ l.w) × (l.hull ≡ hull_of_words b l.w words)
