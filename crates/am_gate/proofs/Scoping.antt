-- Events over earlier variables.
use Rattle.std.proofs.Common.{◌≡◌, ℕ, ◌+◌, ◌<◌, ◌≤◌, Bool, List, [], ◌∷◌, ◌++◌, length, refl, sym, ap, arith, subst}
use Rattle.am_gate.specs.Circuit.{Event, Event.Input, Event.And, Event.Xor, Event.Mux, Event.Clause, Net, makes, after}
use Rattle.am_gate.specs.Circuit.{built, AreScoped, inputs_of}
use Rattle.am_gate.specs.Value.{Meets}
use Rattle.am_gate.specs.Build.{Place, past, AreGates}
use Rattle.am_gate.proofs.Extends.{extended, gates_of}

-- events over earlier variables, and then others
pub AreScoped-append : (p : Place) (es fs : List Event) → AreScoped p.next es → AreScoped (past p es).next fs →
    AreScoped p.next (es ++ fs)
unfolding past
AreScoped-append p [] fs s t = t
AreScoped-append p (e ∷ es) fs s t = (s.0, AreScoped-append (record p { next = p.next + makes e }) es fs s.1 t)

-- gates, and then others
pub AreGates-append : (es fs : List Event) → AreGates es → AreGates fs → AreGates (es ++ fs)
AreGates-append [] fs s t = t
AreGates-append (Input ∷ es) fs s t = absurd s
AreGates-append (And a b ∷ es) fs s t = AreGates-append es fs s t
AreGates-append (Xor a b ∷ es) fs s t = AreGates-append es fs s t
AreGates-append (Mux c a b ∷ es) fs s t = AreGates-append es fs s t
AreGates-append (Clause literals ∷ es) fs s t = absurd s

-- the place after events, and then after others
pub past-append : (p : Place) (es fs : List Event) → past p (es ++ fs) ≡ past (past p es) fs
unfolding past
past-append p [] fs = refl
past-append p (e ∷ es) fs = past-append (record p { next = p.next + makes e }) es fs

-- events make variables, and lose none
pub past-not_less : (p : Place) (es : List Event) → p.next ≤ (past p es).next
unfolding past
past-not_less p [] = omega arith
past-not_less p (e ∷ es) = omega (arith, past-not_less (record p { next = p.next + makes e }) es)

-- gates make no input
pub inputs_of-gates : (g : ℕ) (es : List Event) → AreGates es → inputs_of g es ≡ []
inputs_of-gates g [] h = refl
inputs_of-gates g (Input ∷ es) h = absurd h
inputs_of-gates g (And a b ∷ es) h = inputs_of-gates (g + 1) es h
inputs_of-gates g (Xor a b ∷ es) h = inputs_of-gates (g + 1) es h
inputs_of-gates g (Mux c a b ∷ es) h = inputs_of-gates (g + 1) es h
inputs_of-gates g (Clause literals ∷ es) h = absurd h

gates_of-gates : (es : List Event) → AreGates es → gates_of es ≡ es
gates_of-gates [] h = refl
gates_of-gates (Input ∷ es) h = absurd h
gates_of-gates (And a b ∷ es) h = ap (λ t. And a b ∷ t) (gates_of-gates es h)
gates_of-gates (Xor a b ∷ es) h = ap (λ t. Xor a b ∷ t) (gates_of-gates es h)
gates_of-gates (Mux c a b ∷ es) h = ap (λ t. Mux c a b ∷ t) (gates_of-gates es h)
gates_of-gates (Clause literals ∷ es) h = absurd h

-- truth values of the variables below g extend to gates, each over earlier variables
pub gates_extend : (v : ℕ → Bool) (g : ℕ) (es : List Event) → AreScoped g es → AreGates es →
    (w : ℕ → Bool) × ((x : ℕ) → x < g → w x ≡ v x) × Meets w g es
gates_extend v g es s h =
    let r = extended v g es [] s (sym (inputs_of-gates g es h)) in
    (r.values, r.below, subst (Meets r.values g) (gates_of-gates es h) r.gates)

-- gates make one variable each
pub vars-gates : (n : Net) (es : List Event) → AreGates es → (built n es).vars ≡ n.vars + length es
unfolding built after
vars-gates n [] h = omega arith
vars-gates n (Input ∷ es) h = absurd h
vars-gates n (And a b ∷ es) h = omega (arith, vars-gates (after n (And a b)) es h)
vars-gates n (Xor a b ∷ es) h = omega (arith, vars-gates (after n (Xor a b)) es h)
vars-gates n (Mux c a b ∷ es) h = omega (arith, vars-gates (after n (Mux c a b)) es h)
vars-gates n (Clause literals ∷ es) h = absurd h
