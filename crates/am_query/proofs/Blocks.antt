-- Results of transformers at fields: of a given one, and of the one that a template chooses.
use Rattle.std.proofs.Common.{◌≡◌, ℕ, ◌+◌, ◌<◌, ◌≤◌, Bool, List, All, map, length, sum_by, refl, sym, ◌∙◌, ap, subst}
use Rattle.std.specs.Prelude.{IsTrue}
use Rattle.std.proofs.lemmas.List.{length-map}
use Rattle.am_gate.specs.Build.{Place, Means}
use Rattle.am_gate.specs.Promises.{MakesGates}
use Rattle.am_gate.specs.Reaches.{Reaches}
use Rattle.am_gate.proofs.Laws.{Means-weaker, Makes-weaker, Reaches-gates}
use Rattle.am_bv.specs.Terms.{val, fits, weight}
use Rattle.am_bv.specs.declared.term.Term.{Term}
use Rattle.am_blast.specs.Words.{reads}
use Rattle.am_blast.proofs.Laws.{Means-terms, Makes-terms}
use Rattle.am_domain.specs.Question.{results}
use Rattle.am_tree.specs.declared.grammar.Production.{Production}
use Rattle.am_tree.specs.declared.grammar.Production.TheVariants.{Leaf, Node}
use Rattle.am_tree.specs.declared.tree.Tree.{Tree}
use Rattle.am_slot.specs.Encoding.{AreOver, Encoding, IsEncoding, is_leaf_over}
use Rattle.am_slot.specs.Template.{IsDerivedTuple, ReadAs, block, encoded_terms, selectors_of, weight_of_block}
use Rattle.am_slot.specs.Theorems.{AgreeOnSelectors, KeepsTuple, Serves}
use Rattle.am_slot.proofs.Laws.{blocks_make_their_weight}
use Rattle.am_problem.specs.Examples.{IsFieldRow, IsTransformer, all_fields, inputs_of}
use Rattle.am_problem.specs.Kinds.{fields_of}
use Rattle.am_problem.specs.Limits.{IsFormed, IsLeafOver}
use Rattle.am_problem.specs.Problem.{AreDerivable, Problem, question_of}
use Rattle.am_problem.proofs.Laws.{derivable_terms_fit, rows_are_joined}
use Rattle.am_query.specs.Formulas.{encoding_of, outputs}
use Rattle.am_query.proofs.Builds.{Reaches-weaker}
use Rattle.am_query.specs.inside.Words.{AreWordsIn}
use Rattle.am_query.proofs.Tuples.{AreLong, AreLong-words, IsTuple-reads, map-same}
use Rattle.am_query.proofs.Membership.{some_bit}

module _ (p : Problem) (formed : IsFormed p) where
  abbrev w : ℕ
  w = p.width

  abbrev k : ℕ
  k = fields_of p.kind

  -- what a problem encodes
  pub encodes : IsEncoding (encoding_of p)
  encodes = record { grammar = formed.grammar; some_bit = some_bit p formed }

  leaf-over : (q : Production) → IsLeafOver w (all_fields p) q → IsTrue (is_leaf_over w (all_fields p) q)
  leaf-over (Leaf t) h = h
  leaf-over (Node op names) h = refl

  -- the leaves of a problem's productions read fields of its inputs alone
  pub over_fields : (n : ℕ) → n ≡ all_fields p → AreOver (encoding_of p) n
  over_fields n e = rw e (λ i d l j q m. leaf-over _ (formed.leaves i d l j q m))

  -- a tuple of words that read as the result of terms at the inputs of a row
  pub record ReadsResults (v : ℕ → Bool) (terms : List Term) (row : List ℕ) (tuple : List (List ℕ)) : Type 0 where
    pub long : AreLong p.width (fields_of p.kind) tuple
    pub values : map (reads v) tuple ≡ results (question_of p) terms (inputs_of p row)

  -- values of terms are a result
  valued : (v : ℕ → Bool) (terms : List Term) → length terms ≡ k → (row : List ℕ) → IsFieldRow p row →
      (tuple : List (List ℕ)) →
      All (λ word. length word ≡ w) tuple → map (reads v) tuple ≡ map (λ t. val w t row) terms →
      ReadsResults v terms row tuple
  valued v terms counted row is tuple bits e = record {
    long = record {
      many = sym (length-map tuple (reads v)) ∙ ap length e ∙ length-map terms (λ t. val w t row) ∙ counted;
      bits = bits;
    };
    values = e ∙ sym (ap (λ env. map (λ t. val w t env) terms) (rows_are_joined p row is));
  }

  reads-row : (v : ℕ → Bool) (fields : List (List ℕ)) → AreLong w (all_fields p) fields → IsFieldRow p
      (map (reads v) fields)
  reads-row v fields h = IsTuple-reads v w (all_fields p) fields h

  -- ---- a given transformer

  module _ (terms : List Term) (is : IsTransformer p terms) (fields : List (List ℕ)) where
    terms-fit : length fields ≡ all_fields p → All (λ t. IsTrue (fits w (length fields) t)) terms
    terms-fit e = rw e is.fit

    -- the words of its terms read as its result
    pub Means-outputs : (v : ℕ → Bool) → AreLong w (all_fields p) fields →
        Means v (outputs p terms fields) (ReadsResults v terms (map (reads v) fields))
    Means-outputs v h =
        Means-weaker (Means-terms w (some_bit p formed) fields v h.bits terms (terms-fit h.many))
        (λ tuple r. valued v terms is.counted (map (reads v) fields) (reads-row v fields h) tuple r.bits r.values)

    -- the words of a given transformer's terms are gates of their weight
    pub Makes-outputs : (q : Place) → 0 < q.next → AreWordsIn w (all_fields p) q.next fields →
        MakesGates (outputs p terms fields) (sum_by (weight w) terms) (AreWordsIn w k) q
    Makes-outputs q pos h =
        Makes-weaker (Makes-terms w (some_bit p formed) fields terms (terms-fit h.many) q pos h.each)
        (λ n tuple l r. record { many = r.many ∙ is.counted; each = r.each })

    -- from truth values of the fields, those of the terms' words can be met
    pub Reaches-outputs : (v : ℕ → Bool) (q : Place) → 0 < q.next → IsTrue (v 0) →
        AreWordsIn w (all_fields p) q.next fields →
        Reaches v (outputs p terms fields) q
        (λ u r tuple. AreWordsIn w k r.next tuple × ReadsResults u terms (map (reads v) fields) tuple)
    Reaches-outputs v q pos t h =
        Reaches-weaker
        (Reaches-gates pos t (Makes-outputs q pos h)
        (λ u same. Means-outputs u (AreLong-words w (all_fields p) q.next fields h)))
        (λ u r tuple l same g.
        (g.0, subst (λ row. ReadsResults u terms row tuple) (map-same u v w q.next same fields h.each) g.1))

  -- ---- the transformer of a tuple of trees

  abbrev e : Encoding
  e = encoding_of p

  -- the terms of trees that derive are derivable
  pub tuple_derivable : (ts : List Tree) → IsDerivedTuple (encoding_of p) ts →
      AreDerivable p.rules p.starts p.depth (encoded_terms (encoding_of p) ts)
  tuple_derivable ts h = record { trees = ts; derive = h; give = refl }

  pub tuple_fits : (ts : List Tree) → IsDerivedTuple (encoding_of p) ts → IsTransformer p
      (encoded_terms (encoding_of p) ts)
  tuple_fits ts h = derivable_terms_fit p formed (encoded_terms e ts) (tuple_derivable ts h)

  read_as : (v : ℕ → Bool) (ts : List Tree) → IsDerivedTuple e ts → (fields : List (List ℕ)) →
      AreLong w (all_fields p) fields →
      (tuple : List (List ℕ)) → ReadAs e fields v ts tuple → ReadsResults v (encoded_terms e ts) (map (reads v) fields)
      tuple
  read_as v ts d fields h tuple r =
      valued v (encoded_terms e ts) (tuple_fits ts d).counted (map (reads v) fields) (reads-row v fields h) tuple r.bits
      r.values

  -- the words of a block read as its result
  pub Means-block : (v : ℕ → Bool) (ts : List Tree) → Serves (encoding_of p) v ts → (fields : List (List ℕ)) →
      AreLong w (all_fields p) fields →
      Means v (block (encoding_of p) fields) (ReadsResults v (encoded_terms (encoding_of p) ts) (map (reads v) fields))
  Means-block v ts serves fields h =
      Means-weaker (serves.blocks fields (over_fields (length fields) h.many) h.bits)
      (read_as v ts serves.derived fields h)

  -- the words of a block are gates of its weight
  pub Makes-block : (q : Place) → 1 + selectors_of (encoding_of p) ≤ q.next → (fields : List (List ℕ)) →
      AreWordsIn w (all_fields p) q.next fields →
      MakesGates (block (encoding_of p) fields) (weight_of_block (encoding_of p)) (AreWordsIn w k) q
  Makes-block q l fields h =
      Makes-weaker (blocks_make_their_weight e encodes fields (over_fields (length fields) h.many) q l h.each)
      (λ n tuple m r. record { many = r.many ∙ formed.start_per_field; each = r.each })

  -- from truth values that choose it, every block can be met
  module _ (kept : ℕ → Bool) (ts : List Tree) (d : IsDerivedTuple (encoding_of p) ts)
      (keeps : KeepsTuple (encoding_of p) kept ts)
      (v : ℕ → Bool) (agree : AgreeOnSelectors (encoding_of p) v kept) (q : Place)
      (l : 1 + selectors_of (encoding_of p) ≤ q.next) where
    -- from truth values that choose the trees, those of a block's words can be met
    pub Reaches-block : (fields : List (List ℕ)) → AreWordsIn w (all_fields p) q.next fields →
        Reaches v (block (encoding_of p) fields) q
        (λ u r tuple. AreWordsIn w k r.next tuple
        × ReadsResults u (encoded_terms (encoding_of p) ts) (map (reads v) fields) tuple)
    Reaches-block fields h =
        Reaches-weaker (keeps.blocks v agree q l fields (over_fields (length fields) h.many) h.each)
        (λ u r tuple m same g. (
          record { many = g.0.many ∙ formed.start_per_field; each = g.0.each },
          subst (λ row. ReadsResults u (encoded_terms e ts) row tuple) (map-same u v w q.next same fields h.each)
              (read_as u ts d fields (AreLong-words w (all_fields p) q.next fields h) tuple g.1),
        ))
