-- What the tables of a match say of trees.
use Rattle.std.proofs.Common.{◌≡◌, ℕ, zero, suc, ◌+◌, ◌<◌, ◌≤◌, List, [], ◌∷◌, ◌++◌, length, take, get_or, true, refl}
use Rattle.std.proofs.Common.{sym, ◌∙◌, ◌⊎◌, inl, inr, ap, rules, arith}
use Rattle.std.specs.Prelude.{Option, None, Some, slice_get, slice_index_or}
use Rattle.std.specs.List.{AllZip}
use denote.Enum.Bare.{same_true, sameb}
use Rattle.am_bv.specs.contracts.op.Op.{the_type}
use Rattle.std.proofs.Math.ListN.{get_or-eq_default}
use Rattle.std.proofs.lemmas.Bool.{cases_lt}
use Rattle.std.proofs.lemmas.List.{take_more, length-map}
use Rattle.std.proofs.lemmas.Option.{slice_get_past}
use Rattle.am_bv.specs.declared.op.Op.{Op}
use Rattle.am_bv.specs.declared.term.Term.{Term, out-Term}
use Rattle.am_bv.specs.declared.term.Term.TheOpen.{Node as Node-F}
use Rattle.am_bv.specs.declared.term.Term.TheVariants.{Const, Field, Node as NodeTerm, outs-Const, outs-Field}
use Rattle.am_bv.specs.declared.term.Term.TheVariants.{outs-Node}
use Rattle.am_tree.specs.declared.grammar.Production.{Production}
use Rattle.am_tree.specs.declared.grammar.Production.TheVariants.{Node}
use Rattle.am_tree.specs.declared.tree.Tree.{Tree}
use Rattle.am_tree.specs.Trees.{Rules, production_at, production_of, children_of, tree, terms_at, term_of, Derives}
use Rattle.am_tree.specs.Trees.{IsTreeOf, IsFound}
use Rattle.am_tree.specs.inside.Matched.{arguments_by, arguments_of, AreFound, tree_at, givers, Produces, Joins}
use Rattle.am_tree.proofs.Derivations.{zip-at, zip-lengths, derives-past, term-by_found}
use Rattle.am_tree.proofs.Terms.{term_of-tree, Derives-tree}

-- a term that is an operator at arguments

-- the arguments of a node are those that it was made of
pub arguments-Node : (op : Op) (args : List Term) → arguments_of (NodeTerm op args) ≡ args
arguments-Node op args = ap arguments_by (outs-Node op args)

pub arguments-Const : (c : ℕ) → arguments_of (Const c) ≡ []
arguments-Const c = ap arguments_by (outs-Const c)

pub arguments-Field : (i : ℕ) → arguments_of (Field i) ≡ []
arguments-Field i = ap arguments_by (outs-Field i)

node-layer : (op p : Op) (args ts : List Term) → NodeTerm op args ≡ NodeTerm p ts → Node-F op args ≡ Node-F p ts
node-layer op p args ts e = sym (outs-Node op args) ∙ ap out-Term e ∙ outs-Node p ts

pub same-op : (op p : Op) (args ts : List Term) → NodeTerm op args ≡ NodeTerm p ts → op ≡ p
same-op op p args ts e = let f = node-layer op p args ts e in cc

pub same-args : (op p : Op) (args ts : List Term) → NodeTerm op args ≡ NodeTerm p ts → args ≡ ts
same-args op p args ts e = let f = node-layer op p args ts e in cc

pub not-const : (op : Op) (args : List Term) (c : ℕ) → ¬ (NodeTerm op args ≡ Const c)
not-const op args c e = let f = sym (outs-Node op args) ∙ ap out-Term e ∙ outs-Const c in cc

pub not-field : (op : Op) (args : List Term) (i : ℕ) → ¬ (NodeTerm op args ≡ Field i)
not-field op args i e = let f = sym (outs-Node op args) ∙ ap out-Term e ∙ outs-Field i in cc

-- trees at nonterminals, one after the other

zip-push : {A B : Type 0} (R : A → B → Type 0) (xs : List A) (ys : List B) (x : A) (y : B) → AllZip R xs ys → R x y →
    AllZip R (xs ++ x ∷ []) (ys ++ y ∷ [])
zip-push R [] [] x y h r = (r, tt)
zip-push R [] (z ∷ ys) x y h r = absurd h
zip-push R (w ∷ xs) [] x y h r = absurd h
zip-push R (w ∷ xs) (z ∷ ys) x y h r = (h.0, zip-push R xs ys x y h.1 r)

-- one row more
pub zip-more : {A B : Type 0} (R : A → B → Type 0) (xs : List A) (ys : List B) (i : ℕ) (x : A) (y : B) → i < length xs →
    x ≡ get_or xs i x → AllZip R (take i xs) ys → R x y →
    AllZip R (take (i + 1) xs) (ys ++ y ∷ [])
zip-more R xs ys i x y l e h r = rw (take_more xs i x l, ← e) (zip-push R (take i xs) ys x y h r)

terms-push : (names : List ℕ) (fs : List (ℕ → Term)) (n : ℕ) (f : ℕ → Term) → length names ≡ length fs →
    terms_at (names ++ n ∷ []) (fs ++ f ∷ []) ≡ terms_at names fs ++ f n ∷ []
terms-push [] [] n f e = refl
terms-push [] (g ∷ fs) n f e = cc
terms-push (m ∷ names) [] n f e = cc
terms-push (m ∷ names) (g ∷ fs) n f e = ap (λ ts. g m ∷ ts) (terms-push names fs n f (omega (arith, e)))

givers-push : (rules : Rules) (ts : List Tree) (t : Tree) →
    givers rules (ts ++ t ∷ []) ≡ givers rules ts ++ (λ n. term_of rules n t) ∷ []
givers-push rules [] t = refl
givers-push rules (s ∷ ts) t = ap (λ fs. (λ n. term_of rules n s) ∷ fs) (givers-push rules ts t)

joins-push : (rules : Rules) (d : ℕ) (names : List ℕ) (args : List Term) (ts : List Tree) (n : ℕ) (arg : Term)
    (t : Tree) →
    Joins rules d names args ts → IsTreeOf rules d n arg t →
    Joins rules d (names ++ n ∷ []) (args ++ arg ∷ []) (ts ++ t ∷ [])
joins-push rules d names args ts n arg t j i = record {
  derived = zip-push (Derives rules d) names ts n t j.derived i.derives;
  gives =
      let long : length names ≡ length (givers rules ts) =
      zip-lengths (Derives rules d) names ts j.derived
      ∙ sym (length-map ts (λ (t : Tree) (n : ℕ). term_of rules n t)) in
      ap (terms_at (names ++ n ∷ [])) (givers-push rules ts t)
      ∙ terms-push names (givers rules ts) n (λ m. term_of rules m t) long
      ∙ rw (j.gives, i.gives) refl;
}

-- what stands in a table at a nonterminal
pub found-at : (rules : Rules) (d : ℕ) (args : List Term) (tables : List (List (Option Tree))) (i n : ℕ) →
    i < length args → AllZip (AreFound rules d) args tables →
    IsFound rules d n (get_or args i (Const 0)) (tree_at tables i n)
found-at rules d args tables i n l h = zip-at (AreFound rules d) args tables i (Const 0) [] l h n

-- trees for one argument more, by what stands in that argument's table
pub joins-more : (rules : Rules) (d : ℕ) (names : List ℕ) (args : List Term) (tables : List (List (Option Tree)))
    (ts : List Tree) (i : ℕ) (t : Tree) →
    i < length names → AllZip (AreFound rules d) args tables → length names ≡ length args →
    tree_at tables i (get_or names i 0) ≡ Some t →
    Joins rules d (take i names) (take i args) ts →
    Joins rules d (take (i + 1) names) (take (i + 1) args) (ts ++ t ∷ [])
joins-more rules d names args tables ts i t l h e at j =
    let within : i < length args = omega (arith, l, e) in
    let found : IsTreeOf rules d (get_or names i 0) (get_or args i (Const 0)) t =
    rw at at (found-at rules d args tables i (get_or names i 0) within h) in
    rw (take_more names i 0 l, take_more args i (Const 0) within)
    (joins-push rules d (take i names) (take i args) ts (get_or names i 0) (get_or args i (Const 0)) t j found)

terms-at : (rules : Rules) (names : List ℕ) (ts : List Tree) (i : ℕ) (d : Tree) (e : Term) → i < length names →
    length names ≡ length ts →
    get_or (terms_at names (givers rules ts)) i e ≡ term_of rules (get_or names i 0) (get_or ts i d)
terms-at rules [] ts i d e l m = absurd (omega (arith, l))
terms-at rules (n ∷ names) [] i d e l m = cc
terms-at rules (n ∷ names) (t ∷ ts) zero d e l m = refl
terms-at rules (n ∷ names) (t ∷ ts) (suc i) d e l m =
    terms-at rules names ts i d e (omega (arith, l)) (omega (arith, m))

-- where one has no tree, they have none
pub none-join : (rules : Rules) (d : ℕ) (names : List ℕ) (args : List Term)
    (tables : List (List (Option Tree))) (i : ℕ) →
    i < length names → AllZip (AreFound rules d) args tables → length names ≡ length args →
    tree_at tables i (get_or names i 0) ≡ None →
    (ts : List Tree) → ¬ Joins rules d names args ts
none-join rules d names args tables i l h e at ts j =
    let within : i < length args = omega (arith, l, e) in
    let none : (t : Tree) → ¬ IsTreeOf rules d (get_or names i 0) (get_or args i (Const 0)) t =
    rw at at (found-at rules d args tables i (get_or names i 0) within h) in
    let t = get_or ts i (tree 0 []) in
    none t (record {
      derives = zip-at (Derives rules d) names ts i 0 (tree 0 []) l j.derived;
      gives =
          sym (terms-at rules names ts i (tree 0 []) (Const 0) l (zip-lengths (Derives rules d) names ts j.derived))
          ∙ ap (λ (xs : List Term). get_or xs i (Const 0)) j.gives;
    })

-- children and the whole tree

-- a production and children that make a term are a tree of it
pub made-tree : (rules : Rules) (d n p : ℕ) (q : Production) (term : Term) (ts : List Tree) →
    production_at rules n p ≡ Some q → Produces rules d q term ts →
    IsTreeOf rules (suc d) n term (tree p ts)
made-tree rules d n p q term ts e m = record {
  derives = Derives-tree rules d n p ts (rw e m.derived);
  gives = term_of-tree rules n p ts ∙ rw e m.gives;
}

-- a tree of a term has a production and children that make it
pub unmade-tree : (rules : Rules) (d n : ℕ) (q : Production) (term : Term) (t : Tree) →
    production_at rules n (production_of t) ≡ Some q → IsTreeOf rules (suc d) n term t →
    Produces rules d q term (children_of t)
unmade-tree rules d n q term t e i = record {
  derived = rw e at i.derives;
  gives = sym (term-by_found rules n t q e) ∙ i.gives;
}

-- a node makes a term exactly where the operators are the same, and the nonterminals have trees for the arguments

-- the operators are the same, the lists are as long, and the trees join
pub record AreParts (rules : Rules) (d : ℕ) (op : Op) (names : List ℕ) (other : Op) (args : List Term)
    (ts : List Tree) : Type 0 where
  pub same : op ≡ other
  pub long : length names ≡ length args
  pub joins : Joins rules d names args ts

length-terms : (names : List ℕ) (fs : List (ℕ → Term)) → length names ≡ length fs →
    length (terms_at names fs) ≡ length names
length-terms [] fs e = refl
length-terms (n ∷ names) [] e = cc
length-terms (n ∷ names) (f ∷ fs) e = ap suc (length-terms names fs (omega (arith, e)))

-- a node that makes a node has trees for its arguments
pub node-parts : (rules : Rules) (d : ℕ) (op : Op) (names : List ℕ) (other : Op) (args : List Term) (ts : List Tree) →
    Produces rules d (Node op names) (NodeTerm other args) ts → AreParts rules d op names other args ts
node-parts rules d op names other args ts m =
    let gives : NodeTerm op (terms_at names (givers rules ts)) ≡ NodeTerm other args = m.gives in
    let terms = same-args op other (terms_at names (givers rules ts)) args gives in
    let long : length names ≡ length (givers rules ts) =
    zip-lengths (Derives rules d) names ts m.derived
    ∙ sym (length-map ts (λ (t : Tree) (n : ℕ). term_of rules n t)) in
    record {
      same = same-op op other (terms_at names (givers rules ts)) args gives;
      long = sym (length-terms names (givers rules ts) long) ∙ ap length terms;
      joins = record { derived = m.derived; gives = terms };
    }

pub parts-node : (rules : Rules) (d : ℕ) (op : Op) (names : List ℕ) (args : List Term) (ts : List Tree) →
    Joins rules d names args ts →
    Produces rules d (Node op names) (NodeTerm op args) ts
parts-node rules d op names args ts j = record { derived = j.derived; gives = ap (NodeTerm op) j.gives }

-- operators that compare equal are equal
pub op-same : (o p : Op) → sameb the_type o p ≡ true → o ≡ p
op-same o p e = same_true the_type (search rules) _ _ e

-- each operator equals itself
pub op-reflexive : (o : Op) → sameb the_type o o ≡ true
op-reflexive o = search rules

-- where no production up to the end makes the term, no tree gives it
pub unmade-past : (rules : Rules) (d n i : ℕ) (term : Term) → length (slice_index_or rules n []) ≤ i →
    ((t : Tree) → production_of t < i → ¬ IsTreeOf rules (suc d) n term t) → (t : Tree) →
    ¬ IsTreeOf rules (suc d) n term t
unmade-past rules d n i term past none t is = go (cases_lt (production_of t) i)
  where
    go : (production_of t < i) ⊎ (i ≤ production_of t) → ⊥
    go (inl l) = none t l is
    go (inr l) =
        derives-past rules (suc d) n t
        (slice_get_past (slice_index_or rules n []) (production_of t) (omega (arith, past, l))) is.derives

-- a table with an entry for each nonterminal of the grammar is whole
pub table-whole : (rules : Rules) (d : ℕ) (term : Term) (table : List (Option Tree)) (k : ℕ) → length table ≡ k →
    length rules ≤ k →
    ((n : ℕ) → n < k → IsFound rules d n term (get_or table n None)) → AreFound rules d term table
table-whole rules d term table k len long found n = go (cases_lt n k)
  where
    go : (n < k) ⊎ (k ≤ n) → IsFound rules d n term (get_or table n None)
    go (inl l) = found n l
    go (inr l) =
        let nothing : get_or table n None ≡ None = get_or-eq_default table None (omega (arith, len, l)) in
        let unruled : slice_index_or rules n [] ≡ [] = get_or-eq_default rules [] (omega (arith, long, l)) in
        rw nothing (λ t is. derives-past rules d n t
        (ap (λ (ps : List Production). slice_get ps (production_of t)) unruled) is.derives)
