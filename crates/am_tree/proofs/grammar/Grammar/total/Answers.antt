use Rattle.std.proofs.Common.{◌≡◌, ℕ, ◌+◌, ◌-◌, ◌^◌, ◌<◌, ◌≤◌, List, [], ◌∷◌, All, length, get_or, sum_by, sym, ◌∙◌, ap}
use Rattle.std.proofs.Common.{arith}
use Rattle.std.specs.Prelude.{slice_index}
use Rattle.std.proofs.lemmas.List.{get_or_default, take_all}
use Rattle.std.proofs.lemmas.List.Elements.{recursion_from_All}
use Rattle.std.proofs.lemmas.List.Sums.{sum_by_more}
use Rattle.am_tree.specs.declared.grammar.Production.{Production}
use Rattle.am_tree.specs.declared.slots.Argument.{Argument}
use Rattle.am_tree.specs.Slots.{arguments, shared_by}
use Rattle.am_tree.specs.inside.Totals.{total, AreBoundedTotals}
use Rattle.am_tree.proofs.Bounds.{bound, bound-most, bound-next, few-children, index-most}
use Rattle.am_tree.proofs.Formed.{bounds, inside, each-short, each-few}
use Rattle.am_tree.proofs.Inside.{shared-inside}
use Rattle.am_tree.proofs.Totals.{total-sum, total-one, total-last, sum-same, children-same}
use Rattle.am_tree.proofs.grammar.Grammar.total.Goals as goal

pub loop-init : goal.loop-init
loop-init c = record {
  len = c.requires.last.len;
  sums = λ n l.
      sym (total-last c.args.self.now.rules (slice_index c.args.last.items) (slice_index c.args.inner.items) n);
  most = c.requires.last.most;
}

pub sums_above-sums-requires-clause-rules : goal.sums_above-sums-requires-clause-rules
sums_above-sums-requires-clause-rules c = rw c.as_slice.ensures (bounds c.args.self.now.well_formed)

pub sums_above-sums-requires-clause-inner : goal.sums_above-sums-requires-clause-inner
sums_above-sums-requires-clause-inner c = rw (c.as_slice-in-loop.ensures.value, c.as_slice.ensures) c.requires.inner

pub sums_above-sums-requires-clause-below : goal.sums_above-sums-requires-clause-below
sums_above-sums-requires-clause-below c =
    let few : c.loop.counter ≤ 4 = omega (arith, c.loop-test.true, c.args.self.now.well_formed.most_depth) in
    let numbers : AreBoundedTotals (length c.args.self.now.rules) (2 ^ 53) c.loop.sums.items = record {
      len = c.loop.invariant.len;
      most = λ k d l. omega (arith, c.loop.invariant.most k d l, bound-most c.loop.counter few);
    } in
    rw (c.as_slice-in-loop-2.ensures.value, c.as_slice.ensures) numbers

pub loop-preserved : goal.loop-preserved
loop-preserved c =
    let g = c.args.self.now in
    let k = length g.rules in
    let last = slice_index c.args.last.items in
    let inner = slice_index c.args.inner.items in
    let sums = c.loop.sums.items in
    let b = c.loop.counter in
    let ins = inside g.rules g.starts g.depth g.well_formed in
    let len : length c.sums_above-sums.result.items ≡ k =
    c.sums_above-sums.ensures.len ∙ ap length c.as_slice.ensures in
    let each : (n : ℕ) → n < k
    → slice_index c.sums_above-sums.result.items n
    ≡ inner n + sum_by (λ (a : Argument). slice_index sums a.symbol) (shared_by 1 (get_or g.rules n [])) =
    rw (c.as_slice.ensures, c.as_slice-in-loop.ensures.value, c.as_slice-in-loop-2.ensures.value)
    at c.sums_above-sums.ensures.each in
    record {
      len = len;
      sums = λ n l.
          each n l
          ∙ ap (λ (x : ℕ). inner n + x)
          (children-same k (slice_index sums) (λ m. total g.rules last inner b (m ∷ []))
          (shared_by 1 (get_or g.rules n [])) c.loop.invariant.sums (shared-inside k g.rules ins n))
          ∙ sym (total-one g.rules last inner b n);
      most = λ n d l.
          let under : n < k = omega (arith, l, len) in
          let ps = get_or g.rules n [] in
          let kids =
          few-children ps
          (recursion_from_All (λ (p : Production). length (arguments p) ≤ 3) ps
          (each-short g.well_formed n [] under))
          (each-few g.well_formed n [] under) in
          omega (
            arith,
            get_or_default c.sums_above-sums.result.items n d 0 l,
            each n under,
            bound-next (inner n) (λ (a : Argument). slice_index sums a.symbol) (shared_by 1 ps) b
                (index-most 2097152 c.args.inner.items c.requires.inner.most n)
                (λ a. index-most (bound b) sums c.loop.invariant.most a.symbol) kids,
          );
    }

pub bounds-deref-n : goal.bounds-deref-n
bounds-deref-n c =
    let some : All (λ n. n < length c.args.self.now.rules) c.as_slice-n-items.result.now =
    rw c.as_slice-n-items.ensures c.args.self.now.well_formed.starts_in in
    omega (arith, some c.loop-n.n-index 0 c.loop-n-test.true, ap length c.deref.ensures.0, c.loop.invariant.len)

pub overflow_add-total : goal.overflow_add-total
overflow_add-total c =
    let n = get_or c.as_slice-n-items.result.now c.loop-n.n-index 0 in
    let few : c.loop.counter ≤ 4 = omega (arith, c.loop.auto.counter-end, c.args.self.now.well_formed.most_depth) in
    let next = index-most (bound c.loop.counter) c.loop.sums.items c.loop.invariant.most n in
    let read = ap (λ (xs : List ℕ). get_or xs n 0) c.deref.ensures.0 in
    omega (
      arith,
      next,
      read,
      bound-most c.loop.counter few,
      c.loop-n.invariant.most,
      c.loop-n-test.true,
      ap length c.as_slice-n-items.ensures,
      c.args.self.now.well_formed.few_starts,
    )

pub loop-n-preserved : goal.loop-n-preserved
loop-n-preserved c =
    let n = get_or c.as_slice-n-items.result.now c.loop-n.n-index 0 in
    let few : c.loop.counter ≤ 4 = omega (arith, c.loop.auto.counter-end, c.args.self.now.well_formed.most_depth) in
    let next = index-most (bound c.loop.counter) c.loop.sums.items c.loop.invariant.most n in
    let read = ap (λ (xs : List ℕ). get_or xs n 0) c.deref.ensures.0 in
    record {
      value =
          omega (
            arith,
            read,
            c.loop-n.invariant.value,
            sum_by_more (slice_index c.loop.sums.items) c.as_slice-n-items.result.now c.loop-n.n-index 0
                c.loop-n-test.true,
          );
      most = omega (arith, next, read, bound-most c.loop.counter few, c.loop-n.invariant.most);
    }

pub returns : goal.returns
returns c =
    let g = c.args.self.now in
    let k = length g.rules in
    let last = slice_index c.args.last.items in
    let inner = slice_index c.args.inner.items in
    let b = c.loop.counter in
    let deep : b ≡ g.depth - 1 = omega (arith, c.loop-test.false, c.loop.auto.counter-end) in
    let whole =
    ap (sum_by (slice_index c.loop.sums.items))
    (take_all c.loop-n.n-index c.as_slice-n-items.result.now c.loop-n-test.false
    ∙ c.as_slice-n-items.ensures) in
    c.loop-n.invariant.value
    ∙ whole
    ∙ sum-same k (slice_index c.loop.sums.items) (λ n. total g.rules last inner b (n ∷ [])) g.starts
    c.loop.invariant.sums (recursion_from_All (λ n. n < k) g.starts g.well_formed.starts_in)
    ∙ sym (total-sum g.rules last inner b g.starts)
    ∙ ap (λ (d : ℕ). total g.rules last inner d g.starts) deep
