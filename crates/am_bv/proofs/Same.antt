-- What `==` answers at operators and at terms: whether they are equal.
use Rattle.std.proofs.Common.{◌≡◌, ℕ, Bool, true, false, List, [], ◌∷◌, refl, ap, ◌∙◌, sym, nat_eq, ◌&&◌, ◌↔◌, IsTrue}
use Rattle.std.proofs.Common.{rules, eq-eqb}
use Rattle.std.specs.List.{AllByRecursion}
use Rattle.std.specs.Cmp.Lexicographic.{pointwise}
use Rattle.std.proofs.lemmas.Bool.{eqb-true, and_parts}
use Rattle.am_bv.specs.declared.op.Op.{Op}
use Rattle.am_bv.specs.declared.term.Term.{Term, the_lemmas}
use Rattle.am_bv.specs.declared.term.Term.TheVariants.{Const, Field, Node}
use denote.Enum.Bare.{same_true}
use Rattle.am_bv.specs.contracts.op.Op.{the_type}
use Rattle.am_bv.specs.contracts.op.OpPartialEq.TheImpl.{ghosts as op_ghosts}
use Rattle.am_bv.specs.contracts.term.TermPartialEq.TheImpl.Laws.{is}
use Rattle.am_bv.specs.contracts.term.TermPartialEq.TheImpl.{ghosts}
use Rattle.am_bv.proofs.Induction.{Steps, by_induction}

abbrev pub same_op : Op → Op → Bool
same_op = op_ghosts.eq

-- what `==` answers at two terms
abbrev pub same : Term → Term → Bool
same = ghosts.eq

same-Const : (c d : ℕ) → same (Const c) (Const d) ≡ nat_eq c d
same-Const c d = is (Const c) (Const d) ∙ search (rules, the_lemmas)

same-Const-Field : (c i : ℕ) → same (Const c) (Field i) ≡ false
same-Const-Field c i = is (Const c) (Field i) ∙ search (rules, the_lemmas)

same-Const-Node : (c : ℕ) (p : Op) (us : List Term) → same (Const c) (Node p us) ≡ false
same-Const-Node c p us = is (Const c) (Node p us) ∙ search (rules, the_lemmas)

same-Field : (i j : ℕ) → same (Field i) (Field j) ≡ nat_eq i j
same-Field i j = is (Field i) (Field j) ∙ search (rules, the_lemmas)

same-Field-Const : (i c : ℕ) → same (Field i) (Const c) ≡ false
same-Field-Const i c = is (Field i) (Const c) ∙ search (rules, the_lemmas)

same-Field-Node : (i : ℕ) (p : Op) (us : List Term) → same (Field i) (Node p us) ≡ false
same-Field-Node i p us = is (Field i) (Node p us) ∙ search (rules, the_lemmas)

same-Node : (o p : Op) (ts us : List Term) → same (Node o ts) (Node p us) ≡ (same_op o p && pointwise same ts us)
same-Node o p ts us = is (Node o ts) (Node p us) ∙ search (rules, the_lemmas)

same-Node-Const : (o : Op) (ts : List Term) (c : ℕ) → same (Node o ts) (Const c) ≡ false
same-Node-Const o ts c = is (Node o ts) (Const c) ∙ search (rules, the_lemmas)

same-Node-Field : (o : Op) (ts : List Term) (i : ℕ) → same (Node o ts) (Field i) ≡ false
same-Node-Field o ts i = is (Node o ts) (Field i) ∙ search (rules, the_lemmas)

-- operators that compare equal are equal
pub op-same : (o p : Op) → same_op o p ≡ true → o ≡ p
op-same o p e = same_true the_type (search rules) _ _ e

-- an operator compares equal to itself
pub op-reflexive : (o : Op) → same_op o o ≡ true
op-reflexive o = search rules

-- a term that compares equal to t is t
abbrev IsFound : Term → Type 0
IsFound t = (u : Term) → same t u ≡ true → t ≡ u

rows_found : (ts : List Term) → AllByRecursion IsFound ts → (us : List Term) → pointwise same ts us ≡ true → ts ≡ us
rows_found [] h [] e = refl
rows_found [] h (u ∷ us) e = cc
rows_found (t ∷ ts) h [] e = cc
rows_found (t ∷ ts) h (u ∷ us) e =
    let parts = and_parts _ _ e in
    ap (λ x. x ∷ ts) (h.0 u parts.0) ∙ ap (λ xs. u ∷ xs) (rows_found ts h.1 us parts.1)

found : Steps IsFound
found = record {
  const = λ c u e. by_induction (λ u. same (Const c) u ≡ true → Const c ≡ u) (record {
    const = λ d e. ap Const (eqb-true c d (sym (same-Const c d) ∙ e));
    field = λ i e. let f = same-Const-Field c i in cc;
    node = λ p us h e. let f = same-Const-Node c p us in cc;
  }) u e;
  field = λ i u e. by_induction (λ u. same (Field i) u ≡ true → Field i ≡ u) (record {
    const = λ d e. let f = same-Field-Const i d in cc;
    field = λ j e. ap Field (eqb-true i j (sym (same-Field i j) ∙ e));
    node = λ p us h e. let f = same-Field-Node i p us in cc;
  }) u e;
  node = λ o ts h u e. by_induction (λ u. same (Node o ts) u ≡ true → Node o ts ≡ u) (record {
    const = λ d e. let f = same-Node-Const o ts d in cc;
    field = λ j e. let f = same-Node-Field o ts j in cc;
    node = λ p us _ e.
        let parts = and_parts _ _ (sym (same-Node o p ts us) ∙ e) in
        ap (λ x. Node x ts) (op-same o p parts.0) ∙ ap (Node p) (rows_found ts h us parts.1);
  }) u e;
}

abbrev IsReflexive : Term → Type 0
IsReflexive t = same t t ≡ true

rows_reflexive : (ts : List Term) → AllByRecursion IsReflexive ts → pointwise same ts ts ≡ true
rows_reflexive [] h = refl
rows_reflexive (t ∷ ts) h = rw (h.0, rows_reflexive ts h.1) refl

reflexive : Steps IsReflexive
reflexive = record {
  const = λ c. same-Const c c ∙ eq-eqb c c refl;
  field = λ i. same-Field i i ∙ eq-eqb i i refl;
  node = λ o ts h. same-Node o o ts ts ∙ rw (op-reflexive o, rows_reflexive ts h) refl;
}

-- terms compare equal where they are, and nowhere else
pub same-decides : (t u : Term) → IsTrue (same t u) ↔ (t ≡ u)
same-decides t u = (λ h. by_induction IsFound found t u h, λ e. rw (sym e) (by_induction IsReflexive reflexive t))
