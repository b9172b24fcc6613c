-- What a term that fits reads of a row of fields, and terms with renamed fields.
use Rattle.std.proofs.Common.{◌≡◌, ℕ, ◌+◌, ◌<◌, ◌≤◌, true, List, [], ◌∷◌, length, map, slice_index, get_or, IsTrue, sum}
use Rattle.std.proofs.Common.{rules, refl, ap, sym, ◌∙◌, subst, arith}
use Rattle.std.specs.List.{AllByRecursion, list_all, All}
use Rattle.std.proofs.lemmas.Bool.{and_parts, ltb-true, lt-ltb}
use Rattle.std.proofs.lemmas.List.{length-map, get_or-map}
use Rattle.std.proofs.lemmas.List.Sums.{sum-map}
use Rattle.am_bv.specs.declared.op.Op.{Op}
use Rattle.am_bv.specs.declared.term.Term.{Term}
use Rattle.am_bv.specs.declared.term.Term.TheVariants.{Field, Node}
use Rattle.am_bv.specs.Operators.{apply, weight_of}
use Rattle.am_bv.specs.Terms.{val, fits, nodes, weight, rename}
use Rattle.am_bv.proofs.ByKind.{val-Const, val-Field, val-Node, fits-Const, fits-Field, fits-Node, nodes-Field}
use Rattle.am_bv.proofs.ByKind.{nodes-Node, weight-Field, weight-Node, rename-Const, rename-Field, rename-Node}
use Rattle.am_bv.proofs.ByKind.{fits_arity}
use Rattle.am_bv.proofs.Induction.{Steps, by_induction}

-- the number of the field of a term that fits
field-below : (w n i : ℕ) → IsTrue (fits w n (Field i)) → i < n
field-below w n i fit = ltb-true i n (subst IsTrue (fits-Field w n i) fit)

-- the arguments of a term that fits
pub arguments-fit : (w n : ℕ) (op : Op) (ts : List Term) → IsTrue (fits w n (Node op ts)) →
    list_all (fits w n) ts ≡ true
arguments-fit w n op ts fit = (and_parts _ _ (subst IsTrue (fits-Node w n op ts) fit)).1

module _ (w m n : ℕ) (most : m ≤ n) where
  abbrev FitsMore : Term → Type 0
  FitsMore t = IsTrue (fits w m t) → IsTrue (fits w n t)

  rows-fit_more : (ts : List Term) → AllByRecursion FitsMore ts → list_all (fits w m) ts ≡ true →
      list_all (fits w n) ts ≡ true
  rows-fit_more [] each fit = refl
  rows-fit_more (t ∷ ts) each fit =
      let parts = and_parts _ _ fit in rw (each.0 parts.0, rows-fit_more ts each.1 parts.1) refl

  fits_more : Steps FitsMore
  fits_more = record {
    const = λ c fit. fits-Const w n c ∙ sym (fits-Const w m c) ∙ fit;
    field = λ i fit. let below = field-below w m i fit in fits-Field w n i ∙ lt-ltb i n (omega arith);
    node = λ op ts each fit.
        rw (fits-Node w n op ts, fits_arity w m op ts fit, rows-fit_more ts each (arguments-fit w m op ts fit))
        (search rules);
  }

  -- a term that fits fits a longer row of fields
  pub fits-more : (t : Term) → IsTrue (fits w m t) → IsTrue (fits w n t)
  fits-more = by_induction FitsMore fits_more

module _ (w n : ℕ) (env other : List ℕ) (same : (i : ℕ) → i < n → slice_index env i ≡ slice_index other i) where
  abbrev HasSameValue : Term → Type 0
  HasSameValue t = IsTrue (fits w n t) → val w t env ≡ val w t other

  rows-same : (ts : List Term) → AllByRecursion HasSameValue ts → list_all (fits w n) ts ≡ true →
      map (λ t. val w t env) ts ≡ map (λ t. val w t other) ts
  rows-same [] each fit = refl
  rows-same (t ∷ ts) each fit = let parts = and_parts _ _ fit in rw (each.0 parts.0, rows-same ts each.1 parts.1) refl

  same_value : Steps HasSameValue
  same_value = record {
    const = λ c fit. val-Const w c env ∙ sym (val-Const w c other);
    field = λ i fit. val-Field w i env ∙ same i (field-below w n i fit) ∙ sym (val-Field w i other);
    node = λ op ts each fit.
        val-Node w op ts env ∙ ap (apply w op) (rows-same ts each (arguments-fit w n op ts fit))
        ∙ sym (val-Node w op ts other);
  }

  -- a term that fits has the same value at rows that agree on its fields
  pub val-same : (t : Term) → IsTrue (fits w n t) → val w t env ≡ val w t other
  val-same = by_induction HasSameValue same_value

module _ (w : ℕ) (fields env : List ℕ) where
  abbrev ReadsRenamed : Term → Type 0
  ReadsRenamed t =
      IsTrue (fits w (length fields) t) → val w (rename fields t) env ≡ val w t (map (slice_index env) fields)

  rows-renamed : (ts : List Term) → AllByRecursion ReadsRenamed ts → list_all (fits w (length fields)) ts ≡ true →
      map (λ t. val w t env) (map (rename fields) ts) ≡ map (λ t. val w t (map (slice_index env) fields)) ts
  rows-renamed [] each fit = refl
  rows-renamed (t ∷ ts) each fit =
      let parts = and_parts _ _ fit in rw (each.0 parts.0, rows-renamed ts each.1 parts.1) refl

  reads_renamed : Steps ReadsRenamed
  reads_renamed = record {
    const = λ c fit.
        ap (λ u. val w u env) (rename-Const fields c) ∙ val-Const w c env
        ∙ sym (val-Const w c (map (slice_index env) fields));
    field = λ i fit.
        ap (λ u. val w u env) (rename-Field fields i) ∙ val-Field w (get_or fields i i) env
        ∙ sym (get_or-map (slice_index env) fields i i 0 (field-below w (length fields) i fit))
        ∙ sym (val-Field w i (map (slice_index env) fields));
    node = λ op ts each fit.
        ap (λ u. val w u env) (rename-Node fields op ts) ∙ val-Node w op (map (rename fields) ts) env
        ∙ ap (apply w op) (rows-renamed ts each (arguments-fit w (length fields) op ts fit))
        ∙ sym (val-Node w op ts (map (slice_index env) fields));
  }

  -- the value of a renamed term is that of the term at the words of the new fields
  pub val-rename : (t : Term) → IsTrue (fits w (length fields) t) →
      val w (rename fields t) env ≡ val w t (map (slice_index env) fields)
  val-rename = by_induction ReadsRenamed reads_renamed

module _ (w n : ℕ) (fields : List ℕ) (below : All (λ i. i < n) fields) where
  abbrev FitsRenamed : Term → Type 0
  FitsRenamed t = IsTrue (fits w (length fields) t) → IsTrue (fits w n (rename fields t))

  rows-fit_renamed : (ts : List Term) → AllByRecursion FitsRenamed ts → list_all (fits w (length fields)) ts ≡ true →
      list_all (fits w n) (map (rename fields) ts) ≡ true
  rows-fit_renamed [] each fit = refl
  rows-fit_renamed (t ∷ ts) each fit =
      let parts = and_parts _ _ fit in rw (each.0 parts.0, rows-fit_renamed ts each.1 parts.1) refl

  fits_renamed : Steps FitsRenamed
  fits_renamed = record {
    const = λ c fit.
        ap (fits w n) (rename-Const fields c) ∙ fits-Const w n c ∙ sym (fits-Const w (length fields) c) ∙ fit;
    field = λ i fit.
        ap (fits w n) (rename-Field fields i) ∙ fits-Field w n (get_or fields i i)
        ∙ lt-ltb (get_or fields i i) n (below i i (field-below w (length fields) i fit));
    node = λ op ts each fit.
        rw (
          rename-Node fields op ts,
          fits-Node w n op (map (rename fields) ts),
          length-map ts (rename fields),
          fits_arity w (length fields) op ts fit,
          rows-fit_renamed ts each (arguments-fit w (length fields) op ts fit),
        )
        (search rules);
  }

  -- a renamed term fits where its new fields do
  pub fits-rename : (t : Term) → IsTrue (fits w (length fields) t) → IsTrue (fits w n (rename fields t))
  fits-rename = by_induction FitsRenamed fits_renamed

module _ (fields : List ℕ) where
  abbrev KeepsNodes : Term → Type 0
  KeepsNodes t = nodes (rename fields t) ≡ nodes t

  rows-nodes : (ts : List Term) → AllByRecursion KeepsNodes ts → map nodes (map (rename fields) ts) ≡ map nodes ts
  rows-nodes [] each = refl
  rows-nodes (t ∷ ts) each = rw (each.0, rows-nodes ts each.1) refl

  keeps_nodes : Steps KeepsNodes
  keeps_nodes = record {
    const = λ c. ap nodes (rename-Const fields c);
    field = λ i. ap nodes (rename-Field fields i) ∙ nodes-Field (get_or fields i i) ∙ sym (nodes-Field i);
    node = λ op ts each.
        ap nodes (rename-Node fields op ts) ∙ nodes-Node op (map (rename fields) ts)
        ∙ ap (λ k. 1 + k)
        (sym (sum-map nodes (map (rename fields) ts)) ∙ ap sum (rows-nodes ts each) ∙ sum-map nodes ts)
        ∙ sym (nodes-Node op ts);
  }

  -- a renamed term has as many nodes
  pub nodes-rename : (t : Term) → nodes (rename fields t) ≡ nodes t
  nodes-rename = by_induction KeepsNodes keeps_nodes

module _ (w : ℕ) (fields : List ℕ) where
  abbrev KeepsWeight : Term → Type 0
  KeepsWeight t = weight w (rename fields t) ≡ weight w t

  rows-weight : (ts : List Term) → AllByRecursion KeepsWeight ts →
      map (weight w) (map (rename fields) ts) ≡ map (weight w) ts
  rows-weight [] each = refl
  rows-weight (t ∷ ts) each = rw (each.0, rows-weight ts each.1) refl

  keeps_weight : Steps KeepsWeight
  keeps_weight = record {
    const = λ c. ap (weight w) (rename-Const fields c);
    field = λ i. ap (weight w) (rename-Field fields i) ∙ weight-Field w (get_or fields i i) ∙ sym (weight-Field w i);
    node = λ op ts each.
        ap (weight w) (rename-Node fields op ts) ∙ weight-Node w op (map (rename fields) ts)
        ∙ ap (λ k. weight_of w op + k)
        (sym (sum-map (weight w) (map (rename fields) ts)) ∙ ap sum (rows-weight ts each) ∙ sum-map (weight w) ts)
        ∙ sym (weight-Node w op ts);
  }

  -- a renamed term weighs as much
  pub weight-rename : (t : Term) → weight w (rename fields t) ≡ weight w t
  weight-rename = by_induction KeepsWeight keeps_weight
