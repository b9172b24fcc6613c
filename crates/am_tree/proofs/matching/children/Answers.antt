use Rattle.std.proofs.Common.{◌≡◌, true, subst, sym, ◌∙◌}
use denote.Enum.Bare.{sameb}
use Rattle.am_bv.specs.contracts.op.Op.{the_type}
use Rattle.am_bv.specs.declared.term.Term.TheVariants.{Node as NodeTerm}
use Rattle.am_tree.specs.declared.grammar.Production.TheVariants.{Node}
use Rattle.am_tree.specs.inside.Matched.{Produces}
use Rattle.am_tree.proofs.Matched.{node-parts, op-reflexive}
use Rattle.am_tree.proofs.matching.children.Goals.{else-eq-via-then-eq+else-len, else-eq-via-else-eq}
use Rattle.am_tree.proofs.matching.children.Goals as goal

pub returns-else-eq : goal.returns-else-eq
returns-else-eq c = λ rules d found ts makes.
    let op = c.in-Node.op in
    let names = c.in-Node.names in
    let other = c.in-Node-term.other in
    let args = c.in-Node-term.args in
    let made : Produces rules d (Node op names) (NodeTerm other args) ts =
    rw (c.in-Node.is, c.in-Node-term.is) at makes in
    let parts = node-parts rules d op names other args ts made in
    elim c.else-eq.branch [
      | else-eq-via-then-eq+else-len w ↦ w.if-len.false (w.len.ensures ∙ parts.long ∙ sym w.len-then-eq.ensures)
      | else-eq-via-else-eq w ↦
          let yes : c.eq.result ≡ true =
          c.eq.ensures ∙ subst (λ o. sameb the_type op o ≡ true) parts.same (op-reflexive op) in
          cc
    ]
