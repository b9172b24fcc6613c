use Rattle.std.proofs.Common.{ℕ, ◌≡◌, ◌+◌, ◌<◌, List, All, length, get_or, arith}
use Rattle.std.specs.List.Sorted.{IsStrictlyIncreasing}
use Rattle.am_test_clauses.proofs.solving.judge.Goals as goal

range_rises : (xs : List ℕ) (n : ℕ) → length xs ≡ n → ((k d : ℕ) → k < n → get_or xs k d ≡ k) → IsStrictlyIncreasing xs
range_rises xs n long each = λ k lt.
    let one = each k 0 (omega arith) in
    let two = each (k + 1) 0 (omega arith) in
    omega arith

range_below : (xs : List ℕ) (n vars : ℕ) → length xs ≡ n → ((k d : ℕ) → k < n → get_or xs k d ≡ k) → n < vars + 1
    → All (λ v. v < vars) xs
range_below xs n vars long each le = λ k d lt. let one = each k d (omega arith) in omega arith

pub solve-requires-clause-rises : goal.solve-requires-clause-rises
solve-requires-clause-rises c =
    let e = c.in_ok-base.ensures in
    rw c.as_slice.ensures.value (range_rises c.in_ok-base.base.items c.args.count e.len e.each)

pub solve-requires-clause-below : goal.solve-requires-clause-below
solve-requires-clause-below c =
    let e = c.in_ok-base.ensures in
    let vars = c.args.formula.now.vars in
    rw c.as_slice.ensures.value (range_below c.in_ok-base.base.items c.args.count vars e.len e.each (omega arith))
