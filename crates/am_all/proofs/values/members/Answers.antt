use Rattle.std.proofs.Common.{◌≡◌, ℕ, ◌+◌, ◌^◌, ◌<◌, ◌↔◌, refl, ap, sym, subst, arith}
use Rattle.am_problem.specs.Kinds.{meaning_of}
use Rattle.am_all.specs.declared.word_set.WordSet.{WordSet}
use Rattle.am_all.specs.inside.Sets.{Has}
use Rattle.am_all.proofs.ValueLaws.{with_word, without_word}
use Rattle.am_all.proofs.values.members.Goals as goal
use Rattle.am_all.proofs.values.members.Goals.{then-contains, else-contains, Joined-contains}

-- what the set has after one word more
one_more : (c : Joined-contains) → (d : ℕ) →
    Has c.if-contains.members d ↔ ((d < c.loop-c.c + 1) ×
    (meaning_of c.args.p.now.kind).Member c.args.p.now.width c.args.fields.now d)
one_more c =
    let M : ℕ → Type 0 = (meaning_of c.args.p.now.kind).Member c.args.p.now.width c.args.fields.now in
    elim c.if-contains.branch [
      | then-contains w ↦
          subst (λ (set : WordSet). (d : ℕ) → Has set d ↔ ((d < c.loop-c.c + 1) × M d)) (sym w.members-is)
          (with_word (Has c.loop-c.members) (Has w.insert.new.self) M c.loop-c.c c.loop-c.invariant
          (rw (c.kind-kind.ensures, c.width-w.ensures) at (w.if-contains.ensures.0 refl)) w.insert.ensures)
      | else-contains w ↦
          subst (λ (set : WordSet). (d : ℕ) → Has set d ↔ ((d < c.loop-c.c + 1) × M d)) (sym w.members-is)
          (without_word (Has c.loop-c.members) M c.loop-c.c c.loop-c.invariant
          (λ m. let no = w.if-contains.ensures.1 (rw (c.kind-kind.ensures, c.width-w.ensures) m) in cc))
    ]

pub loop-c-preserved : goal.loop-c-preserved
loop-c-preserved c = one_more (goal.at.loop-c-preserved c).Joined-contains

pub returns-after-contains : goal.returns-after-contains
returns-after-contains c =
    let all : c.loop-c.c + 1 ≡ 2 ^ c.args.p.now.width =
    let power : 2 ^ c.width-w.result ≡ 2 ^ c.args.p.now.width = ap (λ (k : ℕ). 2 ^ k) c.width-w.ensures in
    omega (arith, power, c.mask-c-end.ensures.value, c.mask-c-end.ensures.least, c.loop-c-test.true) in
    rw all at (one_more (goal.at.returns-after-contains c).Joined-contains)
