-- How circuits grow.
use Rattle.std.proofs.Common.{ℕ, ◌+◌, ◌*◌, ◌≤◌, List, [], ◌∷◌, ◌++◌, All, arith, sym, ◌∙◌, ap, refl, subst}
use Rattle.std.proofs.Common.{append_assoc, append-nil}
use Rattle.std.specs.List.{flat_map}
use Rattle.am_gate.specs.Circuit.{Net, IsLiteral, Grows, HasRoom, Begins, Event, built, after, added, clauses_of}
use Rattle.am_gate.specs.Build.{Step, Follows, place_of}

-- a circuit as it was
pub Grows-same : (n : Net) → Grows 0 n n
Grows-same n = record { not_less = omega arith; vars = omega arith; clauses = omega arith }

-- one growth after another
pub Grows-trans : {j k : ℕ} {a b c : Net} (m : ℕ) → Grows j a b → Grows k b c → j + k ≤ m → Grows m a c
Grows-trans m one two e = record {
  not_less = omega (arith, one.not_less, two.not_less);
  vars = omega (arith, one.vars, two.vars);
  clauses = omega (arith, one.clauses, two.clauses);
}

-- the room that is left
pub HasRoom-grown : {j m : ℕ} {a b : Net} (k : ℕ) → Grows j a b → HasRoom m a → j + k ≤ m → HasRoom k b
HasRoom-grown k one room e =
    record { vars = omega (arith, one.vars, room.vars); clauses = omega (arith, one.clauses, room.clauses) }

-- a literal stays one
pub IsLiteral-grown : {k : ℕ} {a b : Net} (l : ℕ) → Grows k a b → IsLiteral a.vars l → IsLiteral b.vars l
IsLiteral-grown l one h = omega (arith, one.not_less, h)

-- the same of each of some literals
pub All-grown : {k : ℕ} {a b : Net} (xs : List ℕ) → Grows k a b → All (IsLiteral a.vars) xs → All (IsLiteral b.vars) xs
All-grown xs one h = λ i d lt. omega (arith, one.not_less, h i d lt)

-- a circuit begins with itself
pub Begins-same : (n : Net) → Begins n n
Begins-same n = record { folding = refl; vars = omega arith; clauses = ([], sym (append-nil n.clauses)) }

-- and with what an earlier one begins with
pub Begins-trans : {a b c : Net} → Begins a b → Begins b c → Begins a c
Begins-trans {a} p q = record {
  folding = q.folding ∙ p.folding;
  vars = omega (arith, p.vars, q.vars);
  clauses = (
    p.clauses.0 ++ q.clauses.0,
    q.clauses.1 ∙ ap (λ t. t ++ q.clauses.0) p.clauses.1 ∙ append_assoc a.clauses p.clauses.0 q.clauses.0,
  );
}

-- events leave what was there
pub Begins-built : (n : Net) (es : List Event) → Begins n (built n es)
unfolding built after
Begins-built n [] = Begins-same n
Begins-built n (e ∷ es) =
    Begins-trans {b = after n e}
    (record { folding = refl; vars = omega arith; clauses = (flat_map added (clauses_of (2 * n.vars) e), refl) })
    (Begins-built (after n e) es)

-- a call that follows a step
pub Follows-Begins : {A : Type 0} {m : Step A} {old : Net} {r : A} {new : Net} → Follows m old r new → Begins old new
Follows-Begins {m = m} {old = old} f = subst (Begins old) (sym f.circuit) (Begins-built old (m (place_of old)).events)

-- what search needs where a circuit begins with an earlier one
pub ruleset begins = (Begins-same, Begins-trans, Follows-Begins)
