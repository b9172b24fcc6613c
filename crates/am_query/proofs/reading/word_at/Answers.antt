use mir.Val.{bool_byte}
use Rattle.std.proofs.Common.{◌≡◌, ℕ, ◌+◌, ◌^◌, ◌<◌, ◌≤◌, Bool, true, false, All, List, [], ◌∷◌, ◌++◌, length}
use Rattle.std.proofs.Common.{length-append, append_assoc, refl, sym, ◌∙◌, ap, arith}
use Rattle.std.proofs.Math.Nat.{pow-le-pow_right}
use Rattle.std.proofs.lemmas.List.Elements.{All-head, All-tail}
use Rattle.am_lit.specs.Truth.{value_at}
use Rattle.am_gate.specs.Circuit.{IsLiteral}
use Rattle.am_blast.specs.Words.{bit, reads}
use Rattle.am_blast.proofs.Laws.{reads-lt}
use Rattle.am_query.proofs.reading.word_at.Goals as goal

-- a number that fewer than eight literals read
small : (v : ℕ → Bool) (word rest before after : List ℕ) (l n : ℕ) → length word ≤ 8 → word ≡ rest ++ after
    → rest ≡ before ++ l ∷ [] → n ≡ reads v after
    → n ≤ 127
small v word rest before after l n short e f is =
    let two : 0 < 2 = omega arith in
    let size : length word ≡ length before + 1 + length after =
    ap length e ∙ length-append rest after ∙ ap (λ xs. length xs + length after) f
    ∙ ap (λ k. k + length after) (length-append before (l ∷ [])) in
    let few : length after ≤ 7 = omega (arith, size, short) in
    let most : 2 ^ length after ≤ 128 = pow-le-pow_right two few in
    omega (arith, reads-lt v after, is, most)

-- what holds of all literals holds of the last one of a part
last_one : (P : ℕ → Type 0) (before after : List ℕ) (l : ℕ) → All P ((before ++ l ∷ []) ++ after) → P l
last_one P [] after l h = All-head P l after h
last_one P (x ∷ before) after l h = last_one P before after l (All-tail P x ((before ++ l ∷ []) ++ after) h)

byte : (b : Bool) → bool_byte b ≡ bit b
byte true = refl
byte false = refl

byte_most : (b : Bool) → bool_byte b ≤ 1
byte_most true = omega arith
byte_most false = omega arith

none_left : (rest after : List ℕ) → length rest ≡ 0 → rest ++ after ≡ after
none_left [] after e = refl
none_left (x ∷ rest) after e = absurd (omega (arith, e))

pub overflow_mul-number : goal.overflow_mul-number
overflow_mul-number c =
    let inv = c.loop-l.invariant in
    let few = small (value_at c.args.a.now.values) c.args.word.now _ c.next.new.self.iter.rest.now inv.0 c.in-Some.l.now
    c.loop-l.number
    c.requires.short inv.1 c.in-Some.ensures.steps inv.2 in
    omega (arith, few)

pub overflow_add-number : goal.overflow_add-number
overflow_add-number c =
    let inv = c.loop-l.invariant in
    let few = small (value_at c.args.a.now.values) c.args.word.now _ c.next.new.self.iter.rest.now inv.0 c.in-Some.l.now
    c.loop-l.number
    c.requires.short inv.1 c.in-Some.ensures.steps inv.2 in
    omega (arith, few, byte_most c.holds.result, c.from.ensures)

pub holds-requires : goal.holds-requires
holds-requires c =
    let inv = c.loop-l.invariant in
    let Given : ℕ → Type 0 = IsLiteral (length c.args.a.now.values) in
    let split : c.args.word.now ≡ (c.next.new.self.iter.rest.now ++ c.in-Some.l.now ∷ []) ++ inv.0 =
    inv.1 ∙ ap (λ xs. xs ++ inv.0) c.in-Some.ensures.steps in
    last_one Given c.next.new.self.iter.rest.now inv.0 c.in-Some.l.now (rw split at c.requires.given)

pub loop-l-preserved : goal.loop-l-preserved
loop-l-preserved c =
    let inv = c.loop-l.invariant in
    let first : c.from.result ≡ bit c.holds.result = c.from.ensures ∙ byte c.holds.result in (
      c.in-Some.l.now ∷ inv.0,
      inv.1 ∙ ap (λ xs. xs ++ inv.0) c.in-Some.ensures.steps
          ∙ append_assoc c.next.new.self.iter.rest.now (c.in-Some.l.now ∷ []) inv.0,
      omega (arith, first, ap bit c.holds.ensures, inv.2),
    )

pub returns : goal.returns
returns c =
    let inv = c.loop-l.invariant in
    inv.2
    ∙ ap (reads (value_at c.args.a.now.values))
    (sym (inv.1 ∙ none_left c.loop-l.l-iterator.iter.rest.now inv.0 c.in-None.ensures.steps.0))
