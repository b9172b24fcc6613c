-- The terms of a derivable transformer weigh together no more than a block: a tree's nodes stand at different slots.
use Rattle.std.proofs.Common.{◌≡◌, ℕ, zero, suc, ◌+◌, ◌≤◌, ◌<◌, eqb, Bool, true, false, cond, List, [], ◌∷◌, ◌++◌, map}
use Rattle.std.proofs.Common.{length, sum_by, Some, None, refl, ap, subst, arith, append-nil}
use Rattle.std.specs.Prelude.{Option}
use Rattle.std.specs.List.{AllByRecursion, AllZip, list_any}
use Rattle.std.proofs.lemmas.Bool.{eqb-true}
use Rattle.std.proofs.lemmas.Grind.{flat_map-append}
use Rattle.std.proofs.lemmas.List.Sums.{sum_by-cons, sum_by-append}
use Rattle.am_bv.specs.declared.op.Op.{Op}
use Rattle.am_bv.specs.Operators.{weight_of}
use Rattle.am_bv.specs.Terms.{weight}
use Rattle.am_bv.specs.declared.term.Term.{Term}
use Rattle.am_bv.proofs.Laws.{weight-Node}
use Rattle.am_tree.specs.declared.grammar.Production.{Production}
use Rattle.am_tree.specs.declared.grammar.Production.TheVariants.{Leaf, Node}
use Rattle.am_tree.specs.declared.slots.Argument.{Argument}
use Rattle.am_tree.specs.declared.tree.Tree.{Tree}
use Rattle.am_tree.specs.Slots.{Numbered, arguments, is_offered, next_level, offered, positioned, same, shared}
use Rattle.am_tree.specs.Trees.{AreDerived, Derives, Rules, children_of, production_at, production_of, term_by, term_of}
use Rattle.am_tree.specs.Trees.{terms_at}
use Rattle.am_tree.specs.Weights.{block_weight, production_weight, slot_weight}
use Rattle.am_tree.proofs.Laws.{IsOffered, Stands, are_offered, offered_has, same-true, term-by}

-- ---- arguments at different positions

-- a list of arguments without the first that is this one
abbrev without : Argument → List Argument → List Argument
without a [] = []
without a (k ∷ ks) = cond {A = List Argument} (same a k) ks (k ∷ without a ks)

module _ (f : Argument → ℕ) where
  sum-without : (a : Argument) (ks : List Argument) → Stands ks a → sum_by f ks ≡ f a + sum_by f (without a ks)
  sum-without a [] h = cc
  sum-without a (k ∷ ks) h = go (same a k) refl (sum-without a ks)
    where
      go : (b : Bool) → same a k ≡ b → (Stands ks a → sum_by f ks ≡ f a + sum_by f (without a ks)) →
          sum_by f (k ∷ ks) ≡ f a + sum_by f (cond {A = List Argument} b ks (k ∷ without a ks))
      go true e rest = rw (same-true a k e) (sum_by-cons f k ks)
      go false e rest = omega (arith, sum_by-cons f k ks, sum_by-cons f k (without a ks), rest (rw e at h))

  stands-without : (a b : Argument) (ks : List Argument) → same b a ≡ false → Stands ks b → Stands (without a ks) b
  stands-without a b [] n h = h
  stands-without a b (k ∷ ks) n h = go (same a k) refl (stands-without a b ks n)
    where
      other : (c : Bool) → same b k ≡ c → (Stands ks b → Stands (without a ks) b) → Stands (k ∷ without a ks) b
      other true e rest = rw e refl
      other false e rest = rw e (rest (rw e at h))

      go : (c : Bool) → same a k ≡ c → (Stands ks b → Stands (without a ks) b) →
          Stands (cond {A = List Argument} c ks (k ∷ without a ks)) b
      go true e rest = let apart : same b k ≡ false = subst (λ x. same b x ≡ false) (same-true a k e) n in rw apart at h
      go false e rest = other (same b k) refl rest

  -- the arguments from a position on stand also without one before it
  stand-without : (a : Argument) (i : ℕ) (names : List ℕ) (ks : List Argument) → a.position < i →
      AllByRecursion (Stands ks) (positioned i names) → AllByRecursion (Stands (without a ks)) (positioned i names)
  stand-without a i [] ks l h = tt
  stand-without a i (n ∷ names) ks l h =
      let b : Argument = record { position = i; symbol = n } in (
        stands-without a b ks (apart (eqb i a.position) refl) h.0,
        stand-without a (i + 1) names ks (omega (arith, l)) h.1,
      )
    where
      apart : (c : Bool) → eqb i a.position ≡ c → same (record { position = i; symbol = n }) a ≡ false
      apart true e = let here : i ≡ a.position = eqb-true i a.position e in absurd (omega (arith, here, l))
      apart false e = rw e refl

  -- a sum over arguments one after another is no more than that over a list where they stand
  sum-positioned : (i : ℕ) (names : List ℕ) (ks : List Argument) → AllByRecursion (Stands ks) (positioned i names) →
      sum_by f (positioned i names) ≤ sum_by f ks
  sum-positioned i [] ks h = omega arith
  sum-positioned i (n ∷ names) ks h =
      let a : Argument = record { position = i; symbol = n } in
      let rest = sum-positioned (i + 1) names (without a ks) (stand-without a (i + 1) names ks (omega arith) h.1) in
      omega (arith, sum_by-cons f a (positioned (i + 1) names), sum-without a ks h.0, rest)

-- ---- blocks

module _ (rules : Rules) (w : ℕ) where
  block-append : (below : ℕ) (ns ms : List ℕ) →
      block_weight rules w below (ns ++ ms) ≡ block_weight rules w below ns + block_weight rules w below ms
  unfolding block_weight
  block-append zero ns ms = sum_by-append (λ n. slot_weight w (offered rules zero n)) ns ms
  block-append (suc below) ns ms =
      let children = λ (n : ℕ). map (λ (a : Argument). a.symbol) (shared rules (suc below) n) in
      omega (
        arith,
        sum_by-append (λ (n : ℕ). slot_weight w (offered rules (suc below) n)) ns ms,
        ap (block_weight rules w below) (flat_map-append children ns ms),
        block-append below (next_level rules (suc below) ns) (next_level rules (suc below) ms),
      )

  -- what stands below a slot of a nonterminal
  abbrev alone : ℕ → ℕ → ℕ
  alone below n = block_weight rules w below (n ∷ [])

  block-none : (below : ℕ) → block_weight rules w below [] ≡ 0
  unfolding block_weight
  block-none zero = refl
  block-none (suc below) = omega (arith, block-none below)

  block-symbols : (below : ℕ) (ks : List Argument) →
      block_weight rules w below (map (λ a. a.symbol) ks) ≡ sum_by (λ a. alone below a.symbol) ks
  block-symbols below [] = block-none below
  block-symbols below (k ∷ ks) =
      omega (
        arith,
        block-append below (k.symbol ∷ []) (map (λ (a : Argument). a.symbol) ks),
        block-symbols below ks,
        sum_by-cons (λ (a : Argument). alone below a.symbol) k ks,
      )

  alone-slot : (below n : ℕ) → slot_weight w (offered rules below n) ≤ alone below n
  unfolding block_weight
  alone-slot zero n = omega (arith, sum_by-cons (λ (m : ℕ). slot_weight w (offered rules zero m)) n [])
  alone-slot (suc below) n = omega (arith, sum_by-cons (λ (m : ℕ). slot_weight w (offered rules (suc below) m)) n [])

  alone-above : (below n : ℕ) →
      alone (suc below) n
      ≡ slot_weight w (offered rules (suc below) n) + sum_by (λ a. alone below a.symbol) (shared rules (suc below) n)
  unfolding block_weight
  alone-above below n =
      let symbols = map (λ (a : Argument). a.symbol) (shared rules (suc below) n) in
      omega (
        arith,
        sum_by-cons (λ (m : ℕ). slot_weight w (offered rules (suc below) m)) n [],
        ap (block_weight rules w below) (append-nil symbols),
        block-symbols below (shared rules (suc below) n),
      )

  -- ---- productions

  -- a production of a nonterminal that a slot has
  record IsIn (below n k : ℕ) (q : Production) : Type 0 where
    light : production_weight w q ≤ slot_weight w (offered rules below n)
    inside : AllByRecursion (Stands (shared rules below n)) (arguments q)

  in_list : (below n k : ℕ) (q : Production) → production_at rules n k ≡ Some q → (ps : List Numbered) →
      AllByRecursion (IsOffered rules below n) ps →
      list_any (λ p. eqb k p.number) ps ≡ true →
      (production_weight w q ≤ slot_weight w ps) × AllByRecursion (Stands (shared rules below n)) (arguments q)
  in_list below n k q e [] h has = cc
  in_list below n k q e (p ∷ ps) h has = go (eqb k p.number) refl (in_list below n k q e ps h.1)
    where
      sum : slot_weight w (p ∷ ps) ≡ (production_weight w p.production + w) + slot_weight w ps
      sum = sum_by-cons (λ (r : Numbered). production_weight w r.production + w) p ps

      go : (b : Bool) → eqb k p.number ≡ b →
          (list_any (λ r. eqb k r.number) ps ≡ true →
          (production_weight w q ≤ slot_weight w ps) × AllByRecursion (Stands (shared rules below n)) (arguments q)) →
          (production_weight w q ≤ slot_weight w (p ∷ ps))
          × AllByRecursion (Stands (shared rules below n)) (arguments q)
      go true s rest =
          let here : k ≡ p.number = eqb-true k p.number s in
          let there : production_at rules n k ≡ Some p.production = rw here h.0.at in
          let is : p.production ≡ q = cc (e, there) in (
            omega (arith, sum, ap (production_weight w) is),
            subst (λ r. AllByRecursion (Stands (shared rules below n)) (arguments r)) is h.0.inside,
          )
      go false s rest = let r = rest (rw s at has) in (omega (arith, sum, r.0), r.1)

  is_in : (below n k : ℕ) (q : Production) → production_at rules n k ≡ Some q → is_offered below q ≡ true →
      IsIn below n k q
  is_in below n k q e o =
      let r =
      in_list below n k q e (offered rules below n) (are_offered rules n below) (offered_has rules below n k q e o) in
      record { light = r.0; inside = r.1 }

  -- ---- trees

  abbrev givers : List Tree → List (ℕ → Term)
  givers ts = map (λ t n. term_of rules n t) ts

  -- each operator has arguments
  abbrev HaveArguments : Type 0
  HaveArguments =
      (n k : ℕ) (op : Op) (names : List ℕ) → production_at rules n k ≡ Some (Node op names) → 0 < length names

  by-production : (below n k : ℕ) (ts : List Tree) (o : Option Production) → production_at rules n k ≡ o →
      AreDerived (Derives rules below) o ts →
      ((op : Op) (names : List ℕ) → production_at rules n k ≡ Some (Node op names) →
      AllZip (Derives rules below) names ts →
      weight w (term_by (Some (Node op names)) (givers ts)) ≤ alone below n) →
      weight w (term_by o (givers ts)) ≤ alone below n
  by-production below n k ts None e h node = absurd h
  by-production below n k ts (Some (Leaf t)) e h node =
      let is = is_in below n k (Leaf t) e refl in
      let light : weight w t ≤ slot_weight w (offered rules below n) = is.light in
      omega (arith, light, alone-slot below n)
  by-production below n k ts (Some (Node op names)) e h node = node op names e h

  -- children of a last slot
  none-below : (names : List ℕ) (ts : List Tree) → 0 < length names → ¬ AllZip (Derives rules 0) names ts
  none-below [] ts l h = omega (arith, l)
  none-below (n ∷ names) [] l h = h
  none-below (n ∷ names) (t ∷ ts) l h = h.0

  Weighs : ℕ → Type 0
  Weighs below = (n : ℕ) (t : Tree) → Derives rules (suc below) n t → weight w (term_of rules n t) ≤ alone below n

  children-weigh : (below i : ℕ) → Weighs below → (names : List ℕ) (ts : List Tree) →
      AllZip (Derives rules (suc below)) names ts →
      sum_by (weight w) (terms_at names (givers ts)) ≤ sum_by (λ a. alone below a.symbol) (positioned i names)
  unfolding Weighs
  children-weigh below i each [] ts h = omega arith
  children-weigh below i each (n ∷ names) [] h = absurd h
  children-weigh below i each (n ∷ names) (t ∷ ts) h =
      omega (
        arith,
        sum_by-cons (weight w) (term_of rules n t) (terms_at names (givers ts)),
        sum_by-cons (λ (a : Argument). alone below a.symbol) (record { position = i; symbol = n })
            (positioned (i + 1) names),
        each n t h.0,
        children-weigh below (i + 1) each names ts h.1,
      )

  node-weighs : (below n k : ℕ) → Weighs below → (ts : List Tree) (op : Op) (names : List ℕ) →
      production_at rules n k ≡ Some (Node op names) →
      AllZip (Derives rules (suc below)) names ts →
      weight w (term_by (Some (Node op names)) (givers ts)) ≤ alone (suc below) n
  node-weighs below n k each ts op names e h =
      let is = is_in (suc below) n k (Node op names) e refl in
      let light : weight_of w op ≤ slot_weight w (offered rules (suc below) n) = is.light in
      let children = children-weigh below 0 each names ts h in
      let inside = sum-positioned (λ a. alone below a.symbol) 0 names (shared rules (suc below) n) is.inside in
      omega (arith, weight-Node w op (terms_at names (givers ts)), light, children, inside, alone-above below n)

  module _ (some : HaveArguments) where
    -- a tree's term weighs no more than what stands below a slot of its nonterminal
    tree-weighs : (below : ℕ) → Weighs below
    unfolding Weighs
    tree-weighs zero n t h =
        rw (term-by rules n t)
        (by-production zero n (production_of t) (children_of t) (production_at rules n (production_of t)) refl h
        (λ op names e all. absurd (none-below names (children_of t) (some n (production_of t) op names e) all)))
    tree-weighs (suc below) n t h =
        rw (term-by rules n t)
        (by-production (suc below) n (production_of t) (children_of t) (production_at rules n (production_of t)) refl h
        (node-weighs below n (production_of t) (tree-weighs below) (children_of t)))

    -- the terms of a tuple weigh together no more than a block
    pub tuple-weighs : (below : ℕ) (starts : List ℕ) (ts : List Tree) → AllZip (Derives rules (suc below)) starts ts →
        sum_by (weight w) (terms_at starts (givers ts)) ≤ block_weight rules w below starts
    unfolding Weighs
    tuple-weighs below [] ts h = omega arith
    tuple-weighs below (n ∷ starts) [] h = absurd h
    tuple-weighs below (n ∷ starts) (t ∷ ts) h =
        omega (
          arith,
          sum_by-cons (weight w) (term_of rules n t) (terms_at starts (givers ts)),
          tree-weighs below n t h.0,
          tuple-weighs below starts ts h.1,
          block-append below (n ∷ []) starts,
        )
