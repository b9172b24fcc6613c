use Rattle.std.proofs.Common.{ℕ, ◌+◌, List, [], ◌∷◌, map, drop, length, length-append, append_assoc, ap, arith}
use Rattle.std.proofs.lemmas.List.{length-map}
use Rattle.am_lit.specs.Literal.{opposite_of}
use Rattle.am_slot.specs.Clauses.{pairs}
use Rattle.am_slot.proofs.Listing.{pairs-from, whole-rest}
use Rattle.am_slot.proofs.clauses.push_pairs.Goals as goal

pub push_pairs_with-requires : goal.push_pairs_with-requires
push_pairs_with-requires c =
    let i = c.loop-i.i in
    let ls = c.args.literals.now in
    let l = c.index-literals-i.result in
    let f = λ (m : ℕ). opposite_of l ∷ opposite_of m ∷ [] in
    let step = pairs-from i l ls c.loop-i-test.true c.index-literals-i.is in
    let sizes = ap (λ (cs : List (List ℕ)). length cs) c.loop-i.invariant in
    rw whole-rest (omega (
      arith,
      sizes,
      length-append c.loop-i.clauses (pairs (drop i ls)),
      length-append c.args.clauses.now (pairs ls),
      ap (λ (cs : List (List ℕ)). length cs) step,
      length-append (map f (drop (i + 1) ls)) (pairs (drop (i + 1) ls)),
      length-map (drop (i + 1) ls) f,
      c.requires,
    ))

pub loop-i-preserved : goal.loop-i-preserved
loop-i-preserved c =
    let i = c.loop-i.i in
    let ls = c.args.literals.now in
    let step = pairs-from i c.index-literals-i.result ls c.loop-i-test.true c.index-literals-i.is in
    rw (c.in_ok-push_pairs_with.ensures, whole-rest, append_assoc, ← step) c.loop-i.invariant
