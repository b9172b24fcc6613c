use Rattle.std.proofs.Common.{◌≡◌, ap}
use Rattle.am_gate.specs.Circuit.{Net}
use Rattle.am_gate.proofs.Meaning.{Satisfies-built}
use Rattle.am_gate.proofs.Determined.{determined}
use Rattle.am_gate.proofs.Inputs.{inputs-rise, inputs-below}
use Rattle.am_gate.proofs.circuit.Circuit.finish.Goals as goal

pub invariant_of-result : goal.invariant_of-result
invariant_of-result c = record { normal = rw c.into_clauses.ensures c.self.invariant.normal }

pub returns-clause-meaning : goal.returns-clause-meaning
returns-clause-meaning c = λ v es e.
    let clauses : c.self.inside.clauses ≡ c.args.self.clauses = ap (λ (n : Net). n.clauses) c.self.view_is in
    rw (c.into_clauses.ensures, clauses, e) (Satisfies-built v c.args.self.folding es)

pub returns-clause-determined : goal.returns-clause-determined
returns-clause-determined c = λ inputs h.
    let clauses : c.self.inside.clauses ≡ c.args.self.clauses = ap (λ (n : Net). n.clauses) c.self.view_is in
    let vars : c.self.inside.vars ≡ c.args.self.vars = ap (λ (n : Net). n.vars) c.self.view_is in
    rw (c.into_clauses.ensures, clauses, vars, h.circuit, ← h.variables)
    (determined c.args.self.folding h.events h.scoped)

pub returns-clause-rising : goal.returns-clause-rising
returns-clause-rising c = λ inputs h. rw (← h.variables) (inputs-rise c.args.self.folding h.events)

pub returns-clause-below : goal.returns-clause-below
returns-clause-below c = λ inputs h.
    let vars : c.self.inside.vars ≡ c.args.self.vars = ap (λ (n : Net). n.vars) c.self.view_is in
    rw (vars, h.circuit, ← h.variables) (inputs-below c.args.self.folding h.events)
