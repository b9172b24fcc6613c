use Rattle.std.proofs.Common.{◌≡◌, ℕ, suc, ◌-◌, [], subst, sym, ◌∙◌, arith}
use Rattle.std.specs.Prelude.{slice_index_or}
use Rattle.std.proofs.lemmas.Option.{get_or_from_slice_get}
use Rattle.std.proofs.lemmas.Result.{IfOk-weaker}
use Rattle.am_tree.specs.Trees.{IsFound}
use Rattle.am_tree.proofs.Formed.{few-at}
use Rattle.am_tree.proofs.grammar.Grammar.find_tree.Goals as goal

pub first_tree-requires : goal.first_tree-requires
first_tree-requires c =
    rw c.as_slice-productions.ensures (few-at c.args.self.now.well_formed c.args.symbol c.get.result.now c.get.ensures)

pub returns : goal.returns
returns c =
    let rules = c.args.self.now.rules in
    let d = c.args.depth in
    let deep : suc (d - 1) ≡ d = omega (arith, c.if-depth-eq0.false) in
    let at : slice_index_or rules c.args.symbol [] ≡ c.as_slice-productions.result.now =
    get_or_from_slice_get rules c.args.symbol c.get.result.now [] c.get.ensures ∙ sym c.as_slice-productions.ensures in
    IfOk-weaker c.first_tree.result _ (IsFound rules d c.args.symbol c.args.term.now)
    (λ found h. subst (λ (k : ℕ). IsFound rules k c.args.symbol c.args.term.now found) deep
    (h rules (d - 1) c.args.symbol at (rw c.as_slice.ensures c.in_ok-tables.ensures)))
    c.first_tree.ensures
