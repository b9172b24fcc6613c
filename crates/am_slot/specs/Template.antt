-- Templates: the selectors of all slots, as inputs, then the clauses of all slots; what they decode to;
-- and the blocks after them.
use Rattle.std.specs.Prelude.{ℕ, zero, suc, ◌≡◌, ◌-◌, Bool, List, [], ◌∷◌, All, map, length}
use Rattle.std.specs.List.{AllZip}
use Rattle.am_bv.specs.Terms.{val}
use Rattle.am_bv.specs.declared.term.Term.{Term}
use Rattle.am_gate.specs.Circuit.{Event.Input}
use Rattle.am_gate.specs.Build.{Step, ◌>>=◌, answer, ask, tell}
use Rattle.am_blast.specs.Words.{IsWord, reads}
use Rattle.am_tree.specs.declared.tree.Tree.{Tree}
use Rattle.am_tree.specs.Trees.{Derives, terms_at, term_of}
use Rattle.am_tree.specs.Weights.{block_weight}
use Rattle.am_slot.specs.Encoding.{Encoding}
use Rattle.am_slot.specs.Selectors.{room}
use Rattle.am_slot.specs.Clauses.{root, clauses_from}
use Rattle.am_slot.specs.Decoded.{trees}
use Rattle.am_slot.specs.Blocks.{words}

-- how many selectors there are: one for each slot and production of the slot, in order, from variable 1 on
abbrev pub selectors_of : Encoding → ℕ
selectors_of e = room e.rules (e.depth - 1) e.starts

-- the clauses of all slots
abbrev pub slot_clauses_of : Encoding → List (List ℕ)
slot_clauses_of e = clauses_from e.rules (e.depth - 1) 1 (map root e.starts)

-- so many inputs
unfoldable pub inputs : ℕ → Step (Unit {0})
inputs zero = answer tt
inputs (suc k) = do
  l ← ask Input
  inputs k

-- clauses, one after another
unfoldable pub told : List (List ℕ) → Step (Unit {0})
told [] = answer tt
told (c ∷ cs) = do
  u ← tell c
  told cs

-- the template, in a new circuit
unfoldable pub template : Encoding → Step (Unit {0})
template e = do
  u ← inputs (selectors_of e)
  told (slot_clauses_of e)

-- the block at these fields: one word for each start
abbrev pub block : Encoding → List (List ℕ) → Step (List (List ℕ))
block e fields = words e.rules e.width fields (e.depth - 1) 1 e.starts

-- how many gates a block makes, at most
abbrev pub weight_of_block : Encoding → ℕ
weight_of_block e = block_weight e.rules e.width (e.depth - 1) e.starts

-- a tuple of trees, one for each start, that derive with the depth
abbrev pub IsDerivedTuple : Encoding → List Tree → Type 0
IsDerivedTuple e ts = AllZip (Derives e.rules e.depth) e.starts ts

-- the tuple of trees that truth values choose
abbrev pub decoded : Encoding → (ℕ → Bool) → List Tree
decoded e v = trees e.rules v (e.depth - 1) 1 e.starts

-- the terms that a tuple of trees gives
abbrev pub encoded_terms : Encoding → List Tree → List Term
encoded_terms e ts = terms_at e.starts (map (λ t n. term_of e.rules n t) ts)

-- one word for each start, of literals of variables below a number
pub record AreOutputs (e : Encoding) (vars : ℕ) (words : List (List ℕ)) : Type 0 where
  pub many : length words ≡ length e.starts
  pub each : All (IsWord e.width vars) words

-- the words read as the values of the tuple's terms at what the fields read
pub record ReadAs (e : Encoding) (fields : List (List ℕ)) (v : ℕ → Bool) (ts : List Tree) (words : List (List ℕ))
    : Type 0 where
  pub bits : All (λ word. length word ≡ e.width) words
  pub values : map (reads v) words ≡ map (λ t. val e.width t (map (reads v) fields)) (encoded_terms e ts)
