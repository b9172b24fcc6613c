use Rattle.std.proofs.Common.{◌≡◌, ℕ, ◌*◌, ◌^◌, ◌<◌, ◌≤◌, [], ◌∷◌, All, length, sum_by, take, slice_index}
use Rattle.am_tree.specs.inside.Totals.{total}
use Rattle.am_tree.proofs.Bounds.{bound}
use Rattle.am_tree.proofs.grammar.Grammar.total.Given as goal

abbrev pub invariant-loop : goal.invariant-loop
invariant-loop l = record {
  len : length l.sums.items ≡ length l.self.rules;
  sums : (n : ℕ) → n < length l.self.rules
      → slice_index l.sums.items n
      ≡ total l.self.rules (slice_index l.fn.last.items) (slice_index l.inner.items) l.counter (n ∷ []);
  most : All (λ x. x ≤ bound l.counter) l.sums.items;
}

abbrev pub invariant-loop-n : goal.invariant-loop-n
invariant-loop-n l = record {
  value : l.total ≡ sum_by (slice_index l.sums.items) (take l.n-index l.n-items);
  most : l.total ≤ l.n-index * 2 ^ 53;
}
