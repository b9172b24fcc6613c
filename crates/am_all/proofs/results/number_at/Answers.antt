use Rattle.std.proofs.Common.{◌+◌, ◌-◌, ◌<◌, ◌≤◌, map, refl, ap, ◌∙◌, arith}
use Rattle.std.specs.Prelude.{slice_get, slice_index}
use Rattle.std.proofs.Math.Nat.{mul-le-mul}
use Rattle.std.proofs.lemmas.List.{length-map}
use Rattle.am_all.proofs.NumberLaws.{number_of-drop, number_of-drop-few}
use Rattle.am_all.proofs.ResultLaws.{words-at, word-at}
use Rattle.am_all.proofs.results.number_at.Goals as goal
use Rattle.am_all.proofs.results.number_at.Goals.{At-loop-j}

-- the number so far is small
small : (c : At-loop-j) → c.loop-j.number < 65536
small c =
    let tuple = c.args.tuple.now in
    let words = words-at (λ c. c.now.values) c.args.w c.args.i tuple c.requires.words in
    rw c.loop-j.invariant.number
    (number_of-drop-few c.args.w c.loop-j.j (map (λ d. slice_index d.now.values c.args.i) tuple) words
    (simp length-map c.requires.few))

pub overflow_mul-number : goal.overflow_mul-number
overflow_mul-number c =
    let few = small (goal.at.overflow_mul-number c).At-loop-j in
    let first : c.loop-j.number ≤ 65536 = omega (arith, few) in
    let second : c.from-base.result + 1 ≤ 256 = omega (arith, c.from-base.ensures, c.mask.type_inv) in
    let product = mul-le-mul first second in
    omega (arith, product)

pub overflow_add-number : goal.overflow_add-number
overflow_add-number c =
    let few = small (goal.at.overflow_add-number c).At-loop-j in
    let first : c.loop-j.number ≤ 65536 = omega (arith, few) in
    let second : c.from-base.result + 1 ≤ 256 = omega (arith, c.from-base.ensures, c.mask.type_inv) in
    let product = mul-le-mul first second in
    omega (arith, product, c.from.ensures)

pub loop-j-preserved : goal.loop-j-preserved
loop-j-preserved c =
    let tuple = c.args.tuple.now in
    let j = c.loop-j.j in
    let i = c.args.i in
    let before = number_of-drop c.args.w j (map (λ d. slice_index d.now.values i) tuple) c.loop-j-test.true
    (simp length-map c.loop-j.auto.j) in
    let here = word-at (λ d. d.now.values) i (j - 1) tuple c.index-tuple-j.result c.get.result.now
    (omega (arith, c.loop-j-test.true, c.loop-j.auto.j)) c.index-tuple-j.is
    (ap (λ d. slice_get d.now.values i) c.index-tuple-j.is ∙ c.get.ensures) in
    record {
      base = c.loop-j.invariant.base;
      number = rw (before, here, ← c.loop-j.invariant.number, ← c.loop-j.invariant.base, c.from.ensures) refl;
    }

pub overflow_cast-result : goal.overflow_cast-result
overflow_cast-result c = let few = small (goal.at.overflow_cast-result c).At-loop-j in omega (arith, few)
