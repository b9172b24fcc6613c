use Rattle.std.proofs.Common.{◌≡◌, ◌<◌, ◌≤◌, ℕ, [], ap, length, drop, get_or, sym, ◌∙◌, append-nil, arith}
use Rattle.std.proofs.lemmas.List.{at_drop_all}
use Rattle.std.proofs.lemmas.Option.{get_or_from_slice_get}
use Rattle.am_chain.specs.declared.chain.Chain.{Chain}
use Rattle.am_chain.specs.Trimmed.{kept_chains, moved_chain, moved_number}
use Rattle.am_chain.specs.inside.Marks.{mark_at}
use Rattle.am_chain.proofs.KeptChains.{kept_le}
use Rattle.am_chain.proofs.Needing.{kept_more, kept_skip, same_moved}
use Rattle.am_chain.proofs.trimming.kept_of.Goals as goal

pub renumbered_chain-requires-clause-below : goal.renumbered_chain-requires-clause-below
renumbered_chain-requires-clause-below c = λ k lt.
    let is = c.requires.counts k (omega (arith, c.requires.needed_len, c.requires.before_len)) in
    omega (arith, is, kept_le (mark_at c.args.needed.now) k)

pub renumbered_chain-requires-clause-names : goal.renumbered_chain-requires-clause-names
renumbered_chain-requires-clause-names c = λ n h.
    omega (
      arith,
      c.requires.names c.loop-k.k c.get.result.now c.get.ensures n h,
      c.loop-k-test.true,
      c.requires.needed_len,
      c.requires.before_len,
    )

pub loop-k-preserved-then-not-needed-k : goal.loop-k-preserved-then-not-needed-k
loop-k-preserved-then-not-needed-k c =
    let keeps = mark_at c.args.needed.now in
    let move = moved_number c.args.given keeps in
    let d : Chain = record { first = 0; steps = [] } in
    let lt : c.loop-k.k < length c.args.log.now = omega (arith, c.loop-k-test.true, c.requires.needed_len) in
    kept_skip move keeps c.args.log.now c.loop-k.k d c.loop-k.kept (kept_chains move keeps 0 c.args.log.now) lt
    c.loop-k.invariant c.if-not-needed-k.true

pub loop-k-preserved : goal.loop-k-preserved
loop-k-preserved c =
    let keeps = mark_at c.args.needed.now in
    let move = moved_number c.args.given keeps in
    let log = c.args.log.now in
    let i = c.loop-k.k in
    let chain = c.get.result.now in
    let lt : i < length log = omega (arith, c.loop-k-test.true, c.requires.needed_len) in
    let counts = λ (k : ℕ) (low : k < length c.args.before.now). c.requires.counts k
    (omega (arith, low, c.requires.needed_len, c.requires.before_len)) in
    let moved = same_moved c.args.given keeps c.args.before.now counts chain
    (λ n h. omega (arith, c.requires.names i chain c.get.ensures n h, lt, c.requires.before_len)) in
    let here : get_or log i chain ≡ chain = get_or_from_slice_get log i chain chain c.get.ensures in
    kept_more move keeps log i chain c.loop-k.kept (kept_chains move keeps 0 log) lt c.loop-k.invariant
    c.in_ok-chain.chain c.push.new.self c.if-not-needed-k.false c.in_ok-push.ensures.ok
    (c.in_ok-chain.ensures ∙ moved ∙ ap (moved_chain move) (sym here))

pub returns : goal.returns
returns c =
    let log = c.args.log.now in
    let done : length log ≤ c.loop-k.k = omega (arith, c.loop-k-test.false, c.requires.needed_len) in
    let none : drop c.loop-k.k log ≡ [] = at_drop_all (λ s. s) log c.loop-k.k done in
    sym (append-nil c.loop-k.kept) ∙ (rw none at c.loop-k.invariant)
