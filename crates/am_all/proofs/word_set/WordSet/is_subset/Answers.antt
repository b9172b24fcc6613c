use Rattle.std.proofs.Common.{◌≡◌, ◌/◌, ◌%◌, length, get_or, bit_and, inl, inr, rules, arith}
use Rattle.std.proofs.lemmas.Bool.{cases_lt}
use Rattle.am_all.proofs.Sets.{masked, missing_word, has_below}
use Rattle.am_all.proofs.word_set.WordSet.is_subset.Goals as goal

pub loop-place-preserved : goal.loop-place-preserved
loop-place-preserved c = λ d below here. elim (cases_lt (d / 64) c.loop-place.place) [
  | inl l ↦ c.loop-place.invariant d l here
  | inr at ↦
      let same : c.loop-place.place ≡ d / 64 = omega arith in
      let kept : bit_and (get_or c.args.self.now.parts (d / 64) 0)
      (get_or c.args.other.now.parts (d / 64) 0) ≡ get_or c.args.self.now.parts (d / 64) 0 =
      rw same at c.if-part-other.false in
      masked (get_or c.args.self.now.parts (d / 64) 0) (get_or c.args.other.now.parts (d / 64) 0) (d % 64) kept here
]

pub returns : goal.returns
returns c = λ d here.
    let len : length c.args.self.now.parts ≡ 4 = search rules in
    let below = has_below c.args.self.now.parts d len here in
    c.loop-place.invariant d (omega arith) here

pub returns-then-part-other : goal.returns-then-part-other
returns-then-part-other c =
    missing_word c.args.self.now.parts c.args.other.now.parts c.loop-place.place (omega arith) c.if-part-other.true
