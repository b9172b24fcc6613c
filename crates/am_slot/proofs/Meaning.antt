-- The words of a block read as the values of the trees that the selectors choose.
use Rattle.std.proofs.Common.{◌≡◌, ℕ, zero, suc, ◌+◌, ◌≤◌, Bool, true, false, cond, List, [], ◌∷◌, Option, None, Some}
use Rattle.std.proofs.Common.{map, length, refl, sym, ◌∙◌, ap}
use Rattle.std.specs.Prelude.{All, IsTrue, slice_index_or, slice_get}
use Rattle.std.specs.List.{AllByRecursion}
use Rattle.std.proofs.lemmas.List.{length-replicate}
use Rattle.std.proofs.lemmas.List.Elements.{All-nil, All-cons}
use Rattle.am_gate.specs.Circuit.{falsity}
use Rattle.am_gate.specs.Build.{Means}
use Rattle.am_gate.proofs.Laws.{literal_value-even, Means-bind, Means-answer, Means-weaker, Means-truth}
use Rattle.am_bv.specs.declared.term.Term.{Term}
use Rattle.am_bv.specs.Terms.{val}
use Rattle.am_bv.proofs.Laws.{val-Const, val-Node}
use Rattle.am_blast.specs.Words.{reads, ReadsAs, zeros}
use Rattle.am_blast.proofs.Laws.{reads-zeros, Means-choose, Means-blasted, circuit}
use Rattle.am_tree.specs.declared.grammar.Production.{Production}
use Rattle.am_tree.specs.declared.grammar.Production.TheVariants.{Leaf, Node}
use Rattle.am_tree.specs.declared.tree.Tree.{Tree}
use Rattle.am_tree.specs.Trees.{Rules, production_at, term_by, terms_at, term_of, tree}
use Rattle.am_tree.specs.declared.slots.Argument.{Argument}
use Rattle.am_tree.specs.Slots.{Numbered, offered, positioned, arguments, shared, next_level, at_argument}
use Rattle.am_tree.proofs.Laws.{term_of-tree, IsOffered, Stands, are_offered}
use Rattle.am_slot.specs.Selectors.{width, widths, selector}
use Rattle.am_slot.specs.Decoded.{picked, no_tree, tree_by, level_trees, trees}
use Rattle.am_slot.specs.Blocks.{production_word, chosen_word, slot_word, level_words, words}
use Rattle.am_slot.specs.inside.Fits.{SuitsArity}
use Rattle.am_slot.proofs.Rows.{AllThree, front, behind, found}

module _ (rules : Rules) (w : ℕ) (one : 1 ≤ w) (fields : List (List ℕ)) (v : ℕ → Bool)
    (long : All (λ word. length word ≡ w) fields)
    (suits : (n k : ℕ) (p : Production) → production_at rules n k ≡ Some p → SuitsArity w (length fields) p) where
  -- the value of a nonterminal's tree at what the fields read
  abbrev value : ℕ → Tree → ℕ
  value n t = val w (term_of rules n t) (map (reads v) fields)

  -- the word reads as the tree's value
  abbrev pub Shows : ℕ → Tree → List ℕ → Type 0
  Shows n t word = ReadsAs v w (value n t) word

  abbrev symbol : Argument → ℕ
  symbol a = a.symbol

  -- an operator's arguments

  record Args (names : List ℕ) (children : List Tree) (args : List (List ℕ)) : Type 0 where
    count : length args ≡ length names
    bits : All (λ word. length word ≡ w) args
    values : map (reads v) args
        ≡ map (λ t. val w t (map (reads v) fields)) (terms_at names (map (λ t m. term_of rules m t) children))

  args_of : (n : ℕ) (ks : List Argument) (ts : List Tree) (xs : List (List ℕ)) → AllThree Shows (map symbol ks) ts xs →
      (i : ℕ) (names : List ℕ) → AllByRecursion (Stands ks) (positioned i names) →
      Args names (map (at_argument (no_tree rules n) ks ts) (positioned i names))
      (map (at_argument [] ks xs) (positioned i names))
  args_of n ks ts xs h i [] s = record { count = refl; bits = All-nil (λ word. length word ≡ w); values = refl }
  args_of n ks ts xs h i (name ∷ names) s =
      let a : Argument = record { position = i; symbol = name } in
      let first : Shows name (at_argument (no_tree rules n) ks ts a) (at_argument [] ks xs a) =
      found Shows symbol (no_tree rules n) [] ks ts xs a h s.0 in
      let rest = args_of n ks ts xs h (i + 1) names s.1 in
      record {
        count = ap suc rest.count;
        bits = All-cons (λ word. length word ≡ w) _ _ first.bits rest.bits;
        values = rw (first.value, rest.values) refl;
      }

  -- a production

  term-some : (n : ℕ) (p : Numbered) (children : List Tree) → production_at rules n p.number ≡ Some p.production →
      term_of rules n (tree p.number children) ≡ term_by (Some p.production) (map (λ t m. term_of rules m t) children)
  term-some n p children e = rw e at (term_of-tree rules n p.number children)

  production_means : (n : ℕ) (ks : List Argument) (ts : List Tree) (xs : List (List ℕ)) →
      AllThree Shows (map symbol ks) ts xs →
      (k : ℕ) (q : Production) → SuitsArity w (length fields) q → AllByRecursion (Stands ks) (arguments q) →
      Means v (production_word w fields ks xs q)
      (ReadsAs v w
      (val w
      (term_by (Some q)
      (map (λ t m. term_of rules m t) (map (at_argument (no_tree rules n) ks ts) (arguments q))))
      (map (reads v) fields)))
  production_means n ks ts xs h k (Leaf t) fit s = Means-blasted w one fields v long t fit
  production_means n ks ts xs h k (Node op names) fit s =
      let a = args_of n ks ts xs h 0 names s in
      rw (val-Node w op _ (map (reads v) fields), ← a.values)
      ((circuit w one op).means v _ (a.count ∙ fit) a.bits)

  -- a slot

  chosen : (n : ℕ) (ks : List Argument) (ts : List Tree) (p : Numbered) (last : Option Numbered) (word old new : List ℕ)
      (b : Bool) →
      Shows n (tree_by rules n ks ts (Some p)) word → Shows n (tree_by rules n ks ts last) old →
      ReadsAs v (length word) (cond b (reads v word) (reads v old)) new →
      Shows n (tree_by rules n ks ts (cond b (Some p) last)) new
  chosen n ks ts p last word old new true hw ho g = record { bits = g.bits ∙ hw.bits; value = g.value ∙ hw.value }
  chosen n ks ts p last word old new false hw ho g = record { bits = g.bits ∙ hw.bits; value = g.value ∙ ho.value }

  slot_means : (n : ℕ) (ks : List Argument) (ts : List Tree) (xs : List (List ℕ)) →
      AllThree Shows (map symbol ks) ts xs →
      (ps : List Numbered) →
      AllByRecursion
      (λ p. (production_at rules n p.number ≡ Some p.production)
      × AllByRecursion (Stands ks) (arguments p.production))
      ps →
      (x : ℕ) (last : Option Numbered) (old : List ℕ) → Shows n (tree_by rules n ks ts last) old →
      Means v (slot_word w fields ks xs x old ps) (Shows n (tree_by rules n ks ts (picked v x last ps)))
  unfolding slot_word chosen_word
  slot_means n ks ts xs h [] offers x last old shown = Means-answer old shown
  slot_means n ks ts xs h (p ∷ ps) offers x last old shown =
      let means =
      production_means n ks ts xs h p.number p.production (suits n p.number p.production offers.0.0) offers.0.1 in
      let is = term-some n p (map (at_argument (no_tree rules n) ks ts) (arguments p.production)) offers.0.0 in
      Means-bind _
      (Means-bind _ means
      (λ word r. Means-weaker (Means-choose v (selector x) word old (shown.bits ∙ sym r.bits))
      (λ new g. chosen n ks ts p last word old new (v x) (rw (← is) at r) shown (rw (literal_value-even v x) at g))))
      (λ new g. slot_means n ks ts xs h ps offers.1 (x + 1) (cond (v x) (Some p) last) new g)

  offers_of : (below n : ℕ) (ps : List Numbered) → AllByRecursion (IsOffered rules below n) ps →
      AllByRecursion
      (λ p. (production_at rules n p.number ≡ Some p.production)
      × AllByRecursion (Stands (shared rules below n)) (arguments p.production))
      ps
  offers_of below n [] h = tt
  offers_of below n (p ∷ ps) h = ((h.0.at, h.0.inside), offers_of below n ps h.1)

  pub offers : (below n : ℕ) →
      AllByRecursion
      (λ p. (production_at rules n p.number ≡ Some p.production)
      × AllByRecursion (Stands (shared rules below n)) (arguments p.production))
      (offered rules below n)
  offers below n = offers_of below n _ (are_offered rules n below)

  past_end : (ps : List Production) → slice_get ps (length ps) ≡ None
  past_end [] = refl
  past_end (p ∷ ps) = past_end ps

  nothing : (n : ℕ) → IsTrue (v 0) → Shows n (no_tree rules n) (zeros w)
  nothing n t = record {
    bits = length-replicate w falsity;
    value =
        reads-zeros v w t
        ∙ sym
        (ap (λ (x : Term). val w x (map (reads v) fields))
        (rw (past_end (slice_index_or rules n [])) at
        (term_of-tree rules n (length (slice_index_or rules n [])) []))
        ∙ val-Const w 0 (map (reads v) fields));
  }

  -- a level

  level_means : (below : ℕ) (ns : List ℕ) (x : ℕ) (ts : List Tree) (xs : List (List ℕ)) →
      AllThree Shows (next_level rules below ns) ts xs →
      Means v (level_words rules w fields below x ns xs) (AllThree Shows ns (level_trees rules v below x ns ts))
  unfolding level_words
  level_means below [] x ts xs h = Means-answer [] tt
  level_means below (n ∷ ns) x ts xs h =
      let ks = shared rules below n in
      Means-bind _
      (level_means below ns (x + width rules below n) _ _
      (behind Shows symbol ks (next_level rules below ns) ts xs h))
      (λ rest more. Means-bind _
      (Means-truth (λ t. slot_means n ks _ _ (front Shows symbol ks (next_level rules below ns) ts xs h)
      (offered rules below n) (offers below n) x None (zeros w) (nothing n t)))
      (λ word first. Means-answer (word ∷ rest) (first, more)))

  last_level : (ns : List ℕ) → AllThree Shows (next_level rules zero ns) [] []
  last_level [] = tt
  last_level (n ∷ ns) = last_level ns

  -- the words of a level read as the values of the trees that the selectors choose
  pub words_mean : (below : ℕ) (ns : List ℕ) (x : ℕ) →
      Means v (words rules w fields below x ns) (AllThree Shows ns (trees rules v below x ns))
  unfolding words trees
  words_mean zero ns x = level_means zero ns x [] [] (last_level ns)
  words_mean (suc below) ns x =
      Means-bind _ (words_mean below (next_level rules (suc below) ns) (x + widths rules (suc below) ns))
      (λ next h. level_means (suc below) ns x _ next h)
