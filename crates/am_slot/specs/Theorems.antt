-- Laws of templates, for all encodings. The functions of `theorems` prove them.
use Rattle.std.specs.Prelude.{◌≡◌, ℕ, ◌+◌, ◌<◌, ◌≤◌, Bool, List, All, IsTrue, length, sum_by}
use Rattle.std.specs.List.{range_with_len}
use Rattle.am_gate.specs.Circuit.{AreScoped, inputs_of}
use Rattle.am_gate.specs.Build.{Place, past, Means}
use Rattle.am_gate.specs.Promises.{MakesGates}
use Rattle.am_gate.specs.Reaches.{Reaches}
use Rattle.am_blast.specs.Words.{IsWord}
use Rattle.am_tree.specs.declared.tree.Tree.{Tree}
use Rattle.am_tree.specs.Slots.{layout_of}
use Rattle.am_slot.specs.Encoding.{Encoding, IsEncoding, AreOver}
use Rattle.am_slot.specs.Template.{selectors_of, template, block, weight_of_block, IsDerivedTuple, decoded, AreOutputs}
use Rattle.am_slot.specs.Template.{ReadAs}

-- one selector for each production of each slot of the layout
abbrev pub SelectorsAreThoseOfTheLayout : Type 0
SelectorsAreThoseOfTheLayout =
    (e : Encoding) → selectors_of e ≡ sum_by (λ s. length s.productions) (layout_of e.rules e.starts e.depth)

-- from truth values to a tuple: what they decode to derives, and the words of every block, wherever it is
-- made, read as the values of this one tuple
pub record Serves (e : Encoding) (v : ℕ → Bool) (ts : List Tree) : Type 0 where
  pub derived : IsDerivedTuple e ts
  pub blocks :
      (fields : List (List ℕ)) → AreOver e (length fields) → All (λ field. length field ≡ e.width) fields →
      Means v (block e fields) (ReadAs e fields v ts)

-- what meets a template decodes to a tuple that derives, and serves every block
abbrev pub AssignmentsServe : Type 0
AssignmentsServe = (e : Encoding) → IsEncoding e → (v : ℕ → Bool) → Means v (template e) (λ u. Serves e v (decoded e v))

-- truth values that agree on the selectors
abbrev pub AgreeOnSelectors : Encoding → (ℕ → Bool) → (ℕ → Bool) → Type 0
AgreeOnSelectors e u v = (x : ℕ) → x < 1 + selectors_of e → u x ≡ v x

-- from a tuple to truth values: whatever else is made, and with whatever truth values of the other
-- variables, every block can be met from there, and its words read as the values of the tuple
pub record KeepsTuple (e : Encoding) (u : ℕ → Bool) (ts : List Tree) : Type 0 where
  pub decodes : (v : ℕ → Bool) → AgreeOnSelectors e v u → decoded e v ≡ ts
  pub blocks :
      (v : ℕ → Bool) → AgreeOnSelectors e v u → (p : Place) → 1 + selectors_of e ≤ p.next →
      (fields : List (List ℕ)) → AreOver e (length fields) → All (IsWord e.width p.next) fields →
      Reaches v (block e fields) p (λ z q words. AreOutputs e q.next words × ReadAs e fields z ts words)

-- each tuple that derives is decoded from some truth values, which serve every block
abbrev pub DerivedTuplesAreReached : Type 0
DerivedTuplesAreReached =
    (e : Encoding) → IsEncoding e → (ts : List Tree) → IsDerivedTuple e ts →
    (v : ℕ → Bool) → IsTrue (v 0) → (p : Place) → p.next ≡ 1 →
    Reaches v (template e) p (λ u q a. (q.next ≡ 1 + selectors_of e) × KeepsTuple e u ts)

-- a template makes its selectors, as inputs, and clauses over them
pub record MakesSelectors (e : Encoding) (p : Place) : Type 0 where
  pub scoped : AreScoped p.next (template e p).events
  pub inputs : inputs_of p.next (template e p).events ≡ range_with_len 1 (selectors_of e)
  pub next : (past p (template e p).events).next ≡ 1 + selectors_of e
  pub same : (past p (template e p).events).folding ≡ p.folding

-- a template in a new circuit makes its selectors, whatever it encodes
abbrev pub TemplatesMakeSelectors : Type 0
TemplatesMakeSelectors = (e : Encoding) → (p : Place) → p.next ≡ 1 → MakesSelectors e p

-- a block makes gates: at most as many as it weighs, and exactly so many where none folds
abbrev pub BlocksMakeTheirWeight : Type 0
BlocksMakeTheirWeight =
    (e : Encoding) → IsEncoding e → (fields : List (List ℕ)) → AreOver e (length fields) →
    (p : Place) → 1 + selectors_of e ≤ p.next → All (IsWord e.width p.next) fields →
    MakesGates (block e fields) (weight_of_block e) (AreOutputs e) p
