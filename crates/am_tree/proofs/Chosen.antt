-- Trees that derive are spelled by the slots of a layout, where each slot that they reach chooses its tree's
-- production.
use Rattle.std.proofs.Common.{◌≡◌, ℕ, zero, suc, ◌+◌, ◌-◌, ◌<◌, ◌≤◌, eqb, Bool, true, false, cond, List, [], ◌∷◌, ◌++◌}
use Rattle.std.proofs.Common.{length, map, refl, sym, ◌∙◌, ap, subst, arith, eq-eqb}
use Rattle.std.specs.Prelude.{None, Option, Some, slice_get, slice_index_or}
use Rattle.std.specs.List.{AllByRecursion, AllZip, list_any}
use Rattle.std.proofs.lemmas.Bool.{eqb-true, or_left}
use Rattle.std.proofs.lemmas.List.{length-map}
use Rattle.std.proofs.lemmas.Option.{same_Some, slice_get-map}
use Rattle.am_bv.specs.declared.op.Op.{Op}
use Rattle.am_tree.specs.declared.grammar.Production.{Production}
use Rattle.am_tree.specs.declared.grammar.Production.TheVariants.{Leaf, Node}
use Rattle.am_tree.specs.declared.slots.Argument.{Argument}
use Rattle.am_tree.specs.declared.slots.Slot.{Slot}
use Rattle.am_tree.specs.declared.tree.Tree.{Tree}
use Rattle.am_tree.specs.Laid.{AreSpelled, HasProduction, Spells, SpellsBy}
use Rattle.am_tree.specs.Slots.{Numbered, arguments, at_argument, counted, is_offered, layout_of, level_slots}
use Rattle.am_tree.specs.Slots.{next_level}
use Rattle.am_tree.specs.Slots.{offered, positioned, same, shared, slot_at, slots_from}
use Rattle.am_tree.specs.Trees.{AreDerived, AreTrees, Derives, Rules, children_of, production_at, production_of}
use Rattle.am_tree.proofs.Derivations.{zip-lengths}
use Rattle.am_tree.proofs.Inside.{length-level}
use Rattle.am_tree.proofs.Levels.{before, by-get, child-at, level-get, next-get, next_by, offered-has}
use Rattle.am_tree.proofs.Loops.{length-positioned}
use Rattle.am_tree.proofs.Offers.{IsOffered, Stands, are_offered, offered_has, same-refl, same-true}
use Rattle.am_tree.proofs.Places.{From, any-get, each-get, from-before, from-behind, from-start, zip-append, zip-first}
use Rattle.am_tree.proofs.Places.{zip-from, zip-get, zip-second}

-- the child at an argument of a production
abbrev part : Option Production → List Tree → Argument → Option Tree
part None us a = None
part (Some p) us a = at_argument None (arguments p) (map (λ u. Some u) us) a

-- the child of a slot's tree at an argument, where there is one
abbrev child_of : Rules → ℕ → Option Tree → Argument → Option Tree
child_of rules n None a = None
child_of rules n (Some t) a = part (production_at rules n (production_of t)) (children_of t) a

-- the trees at the slots of a level and of those below it, where given trees reach them
abbrev trees_at : Rules → ℕ → List ℕ → List (Option Tree) → List (Option Tree)
trees_at rules zero ns os = os
trees_at rules (suc below) ns os =
    os ++ trees_at rules below (next_level rules (suc below) ns) (next_by rules (suc below) (child_of rules) ns os)

-- the production of a tree that there may be
abbrev number_by : Option (Option Tree) → ℕ
number_by None = 0
number_by (Some None) = 0
number_by (Some (Some t)) = production_of t

-- a tree that there may be derives
abbrev MayDerive : Rules → ℕ → ℕ → Option Tree → Type 0
MayDerive rules depth n o = (t : Tree) → o ≡ Some t → Derives rules depth n t

-- the child at an argument

module _ (D : ℕ → Tree → Type 0) where
  child-derives : (i : ℕ) (names : List ℕ) (us : List Tree) (a : Argument) (u : Tree) → AllZip D names us →
      at_argument None (positioned i names) (map (λ t. Some t) us) a ≡ Some u → D a.symbol u
  child-derives i [] us a u h e = cc
  child-derives i (n ∷ names) [] a u h e = cc
  child-derives i (n ∷ names) (v ∷ us) a u h e =
      go (same a (record { position = i; symbol = n })) refl e (child-derives (i + 1) names us a u h.1)
    where
      go : (b : Bool) → same a (record { position = i; symbol = n }) ≡ b →
          cond b (Some v) (at_argument None (positioned (i + 1) names) (map (λ t. Some t) us) a) ≡ Some u →
          (at_argument None (positioned (i + 1) names) (map (λ t. Some t) us) a ≡ Some u → D a.symbol u) → D a.symbol u
      go true f e more =
          let is : v ≡ u = cc in
          let named : a ≡ record { position = i; symbol = n } = same-true a (record { position = i; symbol = n }) f in
          subst (λ (x : Argument). D x.symbol u) (sym named) (rw is at h.0)
      go false f e more = more e

-- an argument of a node, at its place
record IsArgument (names : List ℕ) (i m : ℕ) (a : Argument) : Type 0 where
  pub position : a.position ≡ i + m
  pub symbol : slice_get names m ≡ Some a.symbol

argument-get : (i : ℕ) (names : List ℕ) (m : ℕ) (a : Argument) → slice_get (positioned i names) m ≡ Some a →
    IsArgument names i m a
argument-get i [] m a e = cc
argument-get i (n ∷ names) zero a e =
    let is : ◌≡◌ {A = Argument} (record { position = i; symbol = n }) a = same_Some _ _ e in
    record {
      position = ap (λ (x : Argument). x.position) (sym is) ∙ (let here : i ≡ i + 0 = omega arith in here);
      symbol = ap (λ (x : Argument). Some x.symbol) is;
    }
argument-get i (n ∷ names) (suc m) a e =
    let rest = argument-get (i + 1) names m a e in
    record {
      position = rest.position ∙ (let there : i + 1 + m ≡ i + suc m = omega arith in there);
      symbol = rest.symbol;
    }

other-position : (a : Argument) (i n m : ℕ) → a.position ≡ i + suc m → (b : Bool) →
    same a (record { position = i; symbol = n }) ≡ b → b ≡ false
other-position a i n m at true e =
    let named : a ≡ record { position = i; symbol = n } = same-true a (record { position = i; symbol = n }) e in
    let here : a.position ≡ i = ap (λ (x : Argument). x.position) named in
    absurd (omega (arith, at, here))
other-position a i n m at false e = refl

-- the child at a node's argument is the one at its place
child-get : (i : ℕ) (names : List ℕ) (us : List Tree) (m : ℕ) (a : Argument) (u : Tree) →
    slice_get (positioned i names) m ≡ Some a → slice_get us m ≡ Some u →
    at_argument None (positioned i names) (map (λ t. Some t) us) a ≡ Some u
child-get i [] us m a u e f = cc
child-get i (n ∷ names) [] m a u e f = cc
child-get i (n ∷ names) (v ∷ us) zero a u e f =
    let is : ◌≡◌ {A = Argument} (record { position = i; symbol = n }) a = same_Some _ _ e in
    let tree : v ≡ u = same_Some v u f in
    let here : same a (record { position = i; symbol = n }) ≡ true =
    subst (λ (x : Argument). same a x ≡ true) (sym is) (same-refl a) in
    rw (here, tree) refl
child-get i (n ∷ names) (v ∷ us) (suc m) a u e f =
    let at : a.position ≡ i + 1 + m = (argument-get (i + 1) names m a e).position in
    let later : a.position ≡ i + suc m = omega (arith, at) in
    let not_here : same a (record { position = i; symbol = n }) ≡ false = other-position a i n m later _ refl in
    rw not_here (child-get (i + 1) names us m a u e f)

-- the next level's trees

child-may-derive : (rules : Rules) (below n : ℕ) (o : Option Tree) (a : Argument) → MayDerive rules (suc below) n o →
    MayDerive rules below a.symbol (child_of rules n o a)
child-may-derive rules below n None a h u e = cc
child-may-derive rules below n (Some t) a h u e =
    go (production_at rules n (production_of t)) (h t refl) e
  where
    go : (o : Option Production) → AreDerived (Derives rules below) o (children_of t) →
        part o (children_of t) a ≡ Some u → Derives rules below a.symbol u
    go None d f = absurd d
    go (Some (Leaf term)) d f = cc
    go (Some (Node op names)) d f = child-derives (Derives rules below) 0 names (children_of t) a u d f

children-may-derive : (rules : Rules) (below n : ℕ) (o : Option Tree) (ks : List Argument) →
    MayDerive rules (suc below) n o →
    AllZip (MayDerive rules below) (map (λ (a : Argument). a.symbol) ks) (map (child_of rules n o) ks)
children-may-derive rules below n o [] h = tt
children-may-derive rules below n o (a ∷ ks) h =
    (child-may-derive rules below n o a h, children-may-derive rules below n o ks h)

next-may-derive : (rules : Rules) (depth below : ℕ) (ns : List ℕ) (os : List (Option Tree)) →
    AllZip (MayDerive rules (suc depth)) ns os →
    AllZip (MayDerive rules depth) (next_level rules below ns) (next_by rules below (child_of rules) ns os)
next-may-derive rules depth below [] [] h = tt
next-may-derive rules depth below [] (o ∷ os) h = absurd h
next-may-derive rules depth below (n ∷ ns) [] h = absurd h
next-may-derive rules depth below (n ∷ ns) (o ∷ os) h =
    zip-append (MayDerive rules depth) (map (λ (a : Argument). a.symbol) (shared rules below n))
    (map (child_of rules n o) (shared rules below n)) (next_level rules below ns)
    (next_by rules below (child_of rules) ns os)
    (children-may-derive rules depth n o (shared rules below n) h.0) (next-may-derive rules depth below ns os h.1)

-- each node of the rules has an argument
abbrev pub HaveArguments : Rules → Type 0
HaveArguments rules = (n k : ℕ) (op : Op) (names : List ℕ) → production_at rules n k ≡ Some (Node op names) →
    0 < length names

none-derive : (rules : Rules) (names : List ℕ) (us : List Tree) → 0 < length names →
    ¬ AllZip (Derives rules 0) names us
none-derive rules [] us l h = omega (arith, l)
none-derive rules (n ∷ names) [] l h = absurd h
none-derive rules (n ∷ names) (u ∷ us) l h = absurd h.0

module _ (rules : Rules) (have : HaveArguments rules) where
  -- a production of a tree that derives is offered
  is-offered : (below n k : ℕ) (p : Production) (us : List Tree) → production_at rules n k ≡ Some p →
      AreDerived (Derives rules below) (Some p) us → is_offered below p ≡ true
  is-offered below n k (Leaf term) us e h = refl
  is-offered zero n k (Node op names) us e h = absurd (none-derive rules names us (have n k op names e) h)
  is-offered (suc below) n k (Node op names) us e h = refl

  module _ (all : List Slot) (trees : List (Option Tree)) where
    -- the production that a slot chooses
    abbrev choice : ℕ → ℕ
    choice i = number_by (slice_get trees i)

    abbrev ChildrenAreSpelled : ℕ → ℕ → ℕ → Tree → Type 0
    ChildrenAreSpelled below child n t = (k : ℕ) (a : Argument) (u : Tree) →
        slice_get (shared rules below n) k ≡ Some a → child_of rules n (Some t) a ≡ Some u →
        Spells all choice below (child + k) u

    arguments-spell : (below child n : ℕ) (t : Tree) (p : Production) →
        production_at rules n (production_of t) ≡ Some p →
        AllByRecursion (Stands (shared rules below n)) (arguments p) → ChildrenAreSpelled below child n t →
        AreDerived (Derives rules below) (Some p) (children_of t) →
        AllZip (Spells all choice below)
        (map (at_argument 0 (shared rules below n) (counted child (shared rules below n))) (arguments p))
        (children_of t)
    arguments-spell below child n t (Leaf term) e inside h d = rw d tt
    arguments-spell below child n t (Node op names) e inside h d =
        let ks = shared rules below n in
        let f = at_argument 0 ks (counted child ks) in
        let many : length (map f (positioned 0 names)) ≡ length (children_of t) =
        length-map (positioned 0 names) f ∙ length-positioned 0 names
        ∙ zip-lengths (Derives rules below) names (children_of t) d in
        zip-from (Spells all choice below) (map f (positioned 0 names)) (children_of t) many
        (λ m i u at tree.
        let found = get-argument f (positioned 0 names) m i at in
        let stands = each-get (Stands ks) (positioned 0 names) m found.0 inside found.1 in
        let child_at = child-at ks child found.0 stands in
        let child_is : child_of rules n (Some t) found.0 ≡ Some u =
        ap (λ (o : Option Production). part o (children_of t) found.0) e
        ∙ child-get 0 names (children_of t) m found.0 u found.1 tree in
        subst (λ k. Spells all choice below k u) (sym child_at.number ∙ found.2)
        (h child_at.place found.0 u child_at.here child_is))
      where
        get-argument : (f : Argument → ℕ) (xs : List Argument) (k i : ℕ) → slice_get (map f xs) k ≡ Some i →
            (a : Argument) × (slice_get xs k ≡ Some a) × (f a ≡ i)
        get-argument f [] k i e = cc
        get-argument f (x ∷ xs) zero i e = (x, refl, same_Some (f x) i e)
        get-argument f (x ∷ xs) (suc k) i e = get-argument f xs k i e

    slot-spells : (below level child n i : ℕ) (t : Tree) →
        slice_get all i ≡ Some (slot_at rules below level child n) → slice_get trees i ≡ Some (Some t) →
        ChildrenAreSpelled below child n t → Derives rules (suc below) n t → Spells all choice (suc below) i t
    slot-spells below level child n i t at tree h d = go (production_at rules n (production_of t)) refl d
      where
        go : (o : Option Production) → production_at rules n (production_of t) ≡ o →
            AreDerived (Derives rules below) o (children_of t) → Spells all choice (suc below) i t
        go None e d = absurd d
        go (Some p) e d =
            let ks = shared rules below n in
            let own = any-get (λ (q : Numbered). eqb (production_of t) q.number) (offered rules below n)
            (offered_has rules below n (production_of t) p e
            (is-offered below n (production_of t) p (children_of t) e d)) in
            let number : production_of t ≡ own.1.number = eqb-true _ _ own.3 in
            let is : IsOffered rules below n own.1 =
            each-get (IsOffered rules below n) (offered rules below n) own.0 own.1 (are_offered rules n below) own.2 in
            let same_one : own.1.production ≡ p =
            same_Some _ _ (sym is.at ∙ ap (production_at rules n) (sym number) ∙ e) in
            let chosen : choice i ≡ production_of t = ap number_by tree in
            record {
              slot = slot_at rules below level child n;
              stands = at;
              chosen = chosen;
              arguments = map (at_argument 0 ks (counted child ks)) (arguments own.1.production);
              has = subst
                  (λ k. HasProduction (slot_at rules below level child n) k
                  (map (at_argument 0 ks (counted child ks)) (arguments own.1.production)))
                  (sym number ∙ sym chosen) (offered-has rules below level child n own.0 own.1 own.2);
              children = arguments-spell below child n t own.1.production (e ∙ ap Some (sym same_one)) is.inside h
                  (subst (λ (q : Production). AreDerived (Derives rules below) (Some q) (children_of t))
                  (sym same_one) d);
            }

    -- a tree of a level that derives is spelled from its slot
    derived-spelled : (below level first : ℕ) (ns : List ℕ) (os : List (Option Tree)) →
        From all first (slots_from rules below level first ns) → From trees first (trees_at rules below ns os) →
        AllZip (MayDerive rules (suc below)) ns os →
        (j n : ℕ) (t : Tree) → slice_get ns j ≡ Some n → slice_get os j ≡ Some (Some t) →
        Spells all choice (suc below) (first + j) t
    unfolding slots_from
    derived-spelled zero level first ns os from held derive j n t e f =
        let child = first + length ns in
        slot-spells zero level (child + before rules zero ns j) n (first + j) t
        (from j ∙ level-get rules zero level child ns j n e) (held j ∙ f) (λ k a u g c. cc)
        (zip-get (MayDerive rules 1) ns os j n (Some t) derive e f t refl)
    derived-spelled (suc below) level first ns os from held derive j n t e f =
        let child = first + length ns in
        let slots = level_slots rules (suc below) level child ns in
        let next = next_level rules (suc below) ns in
        let rest = slots_from rules below (level + 1) child next in
        let skipped : first + length slots ≡ child =
        ap (λ k. first + k) (length-level rules (suc below) level child ns) in
        let behind : From all child rest =
        subst (λ k. From all k rest) skipped (from-behind all first slots rest from) in
        let those = next_by rules (suc below) (child_of rules) ns os in
        let reached : first + length os ≡ child =
        ap (λ k. first + k) (sym (zip-lengths (MayDerive rules (suc (suc below))) ns os derive)) in
        let held_behind : From trees child (trees_at rules below next those) =
        subst (λ k. From trees k (trees_at rules below next those)) reached
        (from-behind trees first os (trees_at rules below next those) held) in
        slot-spells (suc below) level (child + before rules (suc below) ns j) n (first + j) t
        (from-before all first slots rest j _ from (level-get rules (suc below) level child ns j n e))
        (from-before trees first os (trees_at rules below next those) j (Some t) held f)
        (λ k a u g c.
        let number : child + (before rules (suc below) ns j + k) ≡ child + before rules (suc below) ns j + k =
        omega arith in
        subst (λ i. Spells all choice (suc below) i u) number
        (derived-spelled below (level + 1) child next those behind held_behind
        (next-may-derive rules (suc below) (suc below) ns os derive) (before rules (suc below) ns j + k) a.symbol u
        (next-get rules (suc below) ns j n k a e g)
        (by-get rules (suc below) (child_of rules) ns os j n (Some t) k a e f g ∙ ap Some c)))
        (zip-get (MayDerive rules (suc (suc below))) ns os j n (Some t) derive e f t refl)

some-derive : (rules : Rules) (depth : ℕ) (ns : List ℕ) (ts : List Tree) → AllZip (Derives rules depth) ns ts →
    AllZip (MayDerive rules depth) ns (map (λ t. Some t) ts)
some-derive rules depth [] [] h = tt
some-derive rules depth [] (t ∷ ts) h = absurd h
some-derive rules depth (n ∷ ns) [] h = absurd h
some-derive rules depth (n ∷ ns) (t ∷ ts) h =
    (λ u e. let is : t ≡ u = same_Some t u e in rw is at h.0, some-derive rules depth ns ts h.1)

-- trees that derive from the starts are spelled
pub trees-spelled : (rules : Rules) (starts : List ℕ) (depth : ℕ) (ts : List Tree) → HaveArguments rules → 1 ≤ depth →
    AreTrees rules starts depth ts → AreSpelled (layout_of rules starts depth) (length starts) ts
trees-spelled rules starts depth ts have some h =
    let all = layout_of rules starts depth in
    let os = map (λ (t : Tree). Some t) ts in
    let trees = trees_at rules (depth - 1) starts os in
    let deep : depth ≡ suc (depth - 1) = omega (arith, some) in
    let derive : AllZip (MayDerive rules (suc (depth - 1))) starts os =
    subst (λ d. AllZip (MayDerive rules d) starts os) deep (some-derive rules depth starts ts h) in
    record {
      choice = choice rules have all trees;
      height = suc (depth - 1);
      many = sym (zip-lengths (Derives rules depth) starts ts h);
      each = λ i t e.
          let start = zip-first (Derives rules depth) starts ts i t h e in
          let here : 0 + i ≡ i = omega arith in
          subst (λ k. Spells all (choice rules have all trees) (suc (depth - 1)) k t) here
          (derived-spelled rules have all trees (depth - 1) 1 0 starts os (from-start all) (from-start trees) derive i
          start.0 t start.1 (slice_get-map (λ (t : Tree). Some t) ts i ∙ rw e refl));
    }
