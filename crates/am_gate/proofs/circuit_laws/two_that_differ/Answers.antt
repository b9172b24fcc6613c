use Rattle.std.proofs.Common.{◌≡◌, ◌+◌, [], ◌∷◌, true, sym, ◌∙◌, ap, subst}
use Rattle.am_gate.specs.Circuit.{Net, HasInputs}
use Rattle.am_gate.specs.Build.{place_of}
use Rattle.am_gate.proofs.Growth.{IsLiteral-grown}
use Rattle.am_gate.proofs.Making.{Makes-xor}
use Rattle.am_gate.proofs.Normals.{one}
use Rattle.am_gate.proofs.Made.{HasInputs-start, HasInputs-input, HasInputs-gates, HasInputs-tell, Follows-input}
use Rattle.am_gate.proofs.circuit_laws.two_that_differ.Goals as goal

pub returns : goal.returns
returns c =
    let none = subst (HasInputs []) (sym c.in_ok-circuit.ensures) (HasInputs-start true) in
    let both = HasInputs-input (HasInputs-input none c.in_ok-a.ensures.ok.follows) c.in_ok-b.ensures.ok.follows in
    let first : c.in_ok-circuit.circuit.vars ≡ 1 = ap (λ (n : Net). n.vars) c.in_ok-circuit.ensures in
    let second : c.input.new.self.vars ≡ 2 = (Follows-input c.in_ok-a.ensures.ok.follows).1 ∙ ap (λ n. n + 1) first in
    let gate =
    Makes-xor c.in_ok-a.a c.in_ok-b.b (place_of c.input-2.new.self)
    (IsLiteral-grown c.in_ok-a.a c.in_ok-b.ensures.ok.grows c.in_ok-a.ensures.ok.given) c.in_ok-b.ensures.ok.given in
    let all =
    HasInputs-tell (c.in_ok-differ.differ ∷ [])
    (HasInputs-gates both c.in_ok-differ.ensures.ok.follows gate.scoped gate.gates) c.in_ok-force.ensures.ok
    (one _ c.in_ok-differ.differ c.in_ok-differ.ensures.ok.given) in
    record { determined = c.finish.ensures.determined (1 ∷ 2 ∷ []) (rw (first, second) at all) }
