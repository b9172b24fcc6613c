-- What holds of each operator is found by evaluation over their list.
use Rattle.std.proofs.Common.{◌≡◌, List, map, get_or, length, ap, sym, ◌∙◌}
use Rattle.std.proofs.lemmas.List.{get_or-map}
use Rattle.am_bv.specs.declared.op.Op.{Op}
use Rattle.am_bv.specs.declared.op.TheConstants.Op.{ALL}
use Rattle.am_bv.proofs.Laws.{ALL-contains}

-- two functions that agree on the list of all operators agree on each operator
pub each_op : {X : Type 0} (f g : Op → X) → map f ALL ≡ map g ALL → (op : Op) → f op ≡ g op
each_op {X = X} f g same op =
    let at = ALL-contains op in
    ap f (sym at.2)
    ∙ sym (get_or-map f ALL at.0 op (f op) at.1)
    ∙ ap (λ (xs : List X). get_or xs at.0 (f op)) same
    ∙ get_or-map g ALL at.0 op (f op) at.1
    ∙ ap g at.2
