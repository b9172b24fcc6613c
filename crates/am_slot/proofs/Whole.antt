-- Laws of whole templates, from truth values to tuples of trees and back.
use Rattle.std.proofs.Common.{◌≡◌, ℕ, zero, suc, ◌+◌, ◌-◌, ◌<◌, ◌≤◌, Bool, true, List, [], ◌∷◌, Some, map, length}
use Rattle.std.proofs.Common.{length-append, refl, sym, ◌∙◌, ap, subst, arith}
use Rattle.std.specs.Prelude.{All}
use Rattle.std.specs.List.{AllByRecursion, AllZip}
use Rattle.std.proofs.lemmas.Bool.{and_parts, and_from}
use Rattle.am_gate.specs.Value.{Meets}
use Rattle.am_gate.specs.Build.{Place, past, ◌>>=◌, answer, ask, tell, Means}
use Rattle.am_gate.proofs.Laws.{Meets-parts, Meets-append, Means-weaker, never-input, Makes-weaker}
use Rattle.am_gate.specs.Promises.{MakesGates}
use Rattle.am_lit.specs.Truth.{value_at}
use Rattle.am_blast.specs.Words.{IsWord}
use Rattle.std.proofs.lemmas.List.Elements.{All-nil, All-cons}
use Rattle.am_tree.specs.declared.tree.Tree.{Tree}
use Rattle.am_tree.specs.Trees.{Rules, Derives}
use Rattle.am_slot.specs.Selectors.{widths, room}
use Rattle.am_slot.specs.declared.clauses.Asked.{Asked}
use Rattle.am_slot.specs.Clauses.{root, symbols}
use Rattle.am_slot.proofs.Held.{Held, asked, level_bits, next_held, bits}
use Rattle.am_slot.specs.Encoding.{Encoding, IsEncoding, AreOver}
use Rattle.am_slot.specs.Template.{selectors_of, slot_clauses_of, inputs, told, template, decoded, block}
use Rattle.am_slot.specs.Template.{weight_of_block}
use Rattle.am_slot.specs.Template.{IsDerivedTuple, AreOutputs, ReadAs}
use Rattle.am_slot.proofs.Rows.{AllThree}
use Rattle.am_slot.proofs.Picks.{AllTrue}
use Rattle.am_slot.proofs.Derived.{Derived, trees_derive}
use Rattle.am_slot.proofs.Agreeing.{Agrees, agrees-value_at}
use Rattle.am_slot.proofs.Encoding.{Good, clauses_true, length-level_bits}
use Rattle.am_slot.proofs.Returning.{Kept, trees_kept, names-next}
use Rattle.am_slot.proofs.Premises.{AllSuit, Arities, all_suit, arities}
use Rattle.am_slot.proofs.Meaning.{Shows, words_mean}
use Rattle.am_slot.proofs.Gates.{Worded, Makes-words}

-- what the events of a template say

meets_inputs : (v : ℕ → Bool) (k : ℕ) (p : Place) → Meets v p.next (inputs k p).events
unfolding inputs answer ◌>>=◌ ask Meets past
meets_inputs v zero p = tt
meets_inputs v (suc k) p = rw (never-input p.folding) (tt, meets_inputs v k (record p { next = p.next + 1 }))

told_from : (v : ℕ → Bool) (cs : List (List ℕ)) (p : Place) → Meets v p.next (told cs p).events → AllTrue v cs
unfolding told answer ◌>>=◌ tell Meets past
told_from v [] p h = refl
told_from v (c ∷ cs) p h = and_from _ _ h.0 (told_from v cs (record p { next = p.next + 0 }) h.1)

told_to : (v : ℕ → Bool) (cs : List (List ℕ)) (p : Place) → AllTrue v cs → Meets v p.next (told cs p).events
unfolding told answer ◌>>=◌ tell Meets past
told_to v [] p h = tt
told_to v (c ∷ cs) p h = ((and_parts _ _ h).0, told_to v cs (record p { next = p.next + 0 }) (and_parts _ _ h).1)

-- truth values that agree below

pub agrees-same : (u v : ℕ → Bool) (x : ℕ) (bs : List Bool) → ((y : ℕ) → y < x + length bs → u y ≡ v y) →
    Agrees v x bs →
    Agrees u x bs
agrees-same u v x [] f h = tt
agrees-same u v x (b ∷ bs) f h =
    let first : x < x + suc (length bs) = omega arith in
    (f x first ∙ h.0, agrees-same u v (x + 1) bs (λ y l. f y (omega (arith, l))) h.1)

module _ (e : Encoding) (v : ℕ → Bool) where
  -- where a template's events are met, its clauses are true
  pub template_from : (p : Place) → Meets v p.next (template e p).events → AllTrue v (slot_clauses_of e)
  unfolding template ◌>>=◌
  template_from p h =
      told_from v _ (past p (inputs (selectors_of e) p).events)
      (Meets-parts v p (inputs (selectors_of e) p).events _ h).1

  -- and the other way round
  pub template_to : (p : Place) → AllTrue v (slot_clauses_of e) → Meets v p.next (template e p).events
  unfolding template ◌>>=◌
  template_to p h =
      let es = (inputs (selectors_of e) p).events in
      Meets-append v p es _ (meets_inputs v (selectors_of e) p) (told_to v _ (past p es) h)

-- roots

symbols-roots : (starts : List ℕ) → symbols (map root starts) ≡ starts
symbols-roots [] = refl
symbols-roots (n ∷ ns) = ap (λ (l : List ℕ). n ∷ l) (symbols-roots ns)

roots_derive : (rules : Rules) (v : ℕ → Bool) (depth : ℕ) (starts : List ℕ) (ts : List Tree) →
    AllThree (Derived rules v depth) (map root starts) ts ts →
    AllZip (Derives rules depth) starts ts
roots_derive rules v depth [] [] h = tt
roots_derive rules v depth [] (t ∷ ts) h = absurd h
roots_derive rules v depth (n ∷ ns) [] h = absurd h
roots_derive rules v depth (n ∷ ns) (t ∷ ts) h = (h.0 refl, roots_derive rules v depth ns ts h.1)

-- from truth values to a tuple

deep : (d : ℕ) → 1 ≤ d → suc (d - 1) ≡ d
deep d one = omega (arith, one)

-- where the clauses are true, the decoded tuple derives
pub tuple_derives : (e : Encoding) → IsEncoding e → (v : ℕ → Bool) → AllTrue v (slot_clauses_of e) →
    IsDerivedTuple e (decoded e v)
tuple_derives e is v h =
    let all = trees_derive e.rules v (e.depth - 1) (map root e.starts) 1 h in
    rw (deep e.depth is.grammar.some_depth) at
    (roots_derive e.rules v (suc (e.depth - 1)) e.starts _ (rw (symbols-roots e.starts) at all))

-- from a tuple to truth values

unfoldable held_roots : List ℕ → List Tree → List Held
held_roots [] ts = []
held_roots (n ∷ ns) [] = []
held_roots (n ∷ ns) (t ∷ ts) = record { symbol = n; by = [] ∷ []; tree = Some t } ∷ held_roots ns ts

asked-roots : (D : ℕ → Tree → Type 0) (ns : List ℕ) (ts : List Tree) → AllZip D ns ts →
    map asked (held_roots ns ts) ≡ map root ns
unfolding held_roots
asked-roots D [] ts h = refl
asked-roots D (n ∷ ns) [] h = absurd h
asked-roots D (n ∷ ns) (t ∷ ts) h = ap (λ (l : List Asked). root n ∷ l) (asked-roots D ns ts h.1)

names-roots : (D : ℕ → Tree → Type 0) (ns : List ℕ) (ts : List Tree) → AllZip D ns ts →
    map (λ (h : Held). h.symbol) (held_roots ns ts) ≡ ns
unfolding held_roots
names-roots D [] ts h = refl
names-roots D (n ∷ ns) [] h = absurd h
names-roots D (n ∷ ns) (t ∷ ts) h = ap (λ (l : List ℕ). n ∷ l) (names-roots D ns ts h.1)

good_roots : (rules : Rules) (arities : Arities rules) (v : ℕ → Bool) (below : ℕ) (ns : List ℕ) (ts : List Tree) →
    AllZip (Derives rules (suc below)) ns ts →
    AllByRecursion (Good rules arities v below) (held_roots ns ts)
unfolding held_roots
good_roots rules arities v below [] ts h = tt
good_roots rules arities v below (n ∷ ns) [] h = absurd h
good_roots rules arities v below (n ∷ ns) (t ∷ ts) h = (
  record {
    wanted = λ d. (t, refl);
    derives = λ s e. let is : t ≡ s = cc in subst (λ (x : Tree). Derives rules (suc below) n x) is h.0;
  },
  good_roots rules arities v below ns ts h.1,
)

kept_roots : (D : ℕ → Tree → Type 0) (ns : List ℕ) (ts us : List Tree) → AllZip D ns ts →
    AllThree Kept (held_roots ns ts) us us →
    us ≡ ts
unfolding held_roots
kept_roots D [] [] [] z h = refl
kept_roots D [] [] (u ∷ us) z h = absurd h
kept_roots D [] (t ∷ ts) us z h = absurd z
kept_roots D (n ∷ ns) [] us z h = absurd z
kept_roots D (n ∷ ns) (t ∷ ts) [] z h = absurd h
kept_roots D (n ∷ ns) (t ∷ ts) (u ∷ us) z h =
    let first : u ≡ t = h.0 t refl in rw (first, kept_roots D ns ts us z.1 h.1) refl

length-bits : (rules : Rules) (arities : Arities rules) (below x : ℕ) (hs : List Held) →
    length (bits rules below x hs) ≡ room rules below (map (λ h. h.symbol) hs)
unfolding bits room
length-bits rules arities zero x hs = length-level_bits rules arities (λ y. true) zero hs
length-bits rules arities (suc below) x hs =
    length-append (level_bits rules (suc below) hs) _
    ∙ rw (
      length-level_bits rules arities (λ y. true) (suc below) hs,
      length-bits rules arities below (x + widths rules (suc below) (map (λ h. h.symbol) hs))
          (next_held rules (suc below) x hs),
      names-next rules arities (λ y. true) (suc below) x hs,
    )
    refl

-- the truth values of the selectors that choose a tuple
pub record Chooses (e : Encoding) (ts : List Tree) (bs : List Bool) : Type 0 where
  pub long : length bs ≡ selectors_of e
  pub meets : (v : ℕ → Bool) → Agrees v 1 bs → AllTrue v (slot_clauses_of e)
  pub gives : (v : ℕ → Bool) → Agrees v 1 bs → decoded e v ≡ ts

-- each tuple that derives is chosen by some truth values
pub tuple_chosen : (e : Encoding) → IsEncoding e → (ts : List Tree) → IsDerivedTuple e ts →
    (bs : List Bool) × Chooses e ts bs
tuple_chosen e is ts z =
    let below = e.depth - 1 in
    let hs = held_roots e.starts ts in
    let D = Derives e.rules e.depth in
    let whole : AllZip (Derives e.rules (suc below)) e.starts ts =
    subst (λ d. AllZip (Derives e.rules d) e.starts ts) (sym (deep e.depth is.grammar.some_depth)) z in
    let names : map (λ (h : Held). h.symbol) hs ≡ e.starts = names-roots D e.starts ts z in
    let many = arities e is in
    let bs = bits e.rules below 1 hs in (
      bs,
      record {
        long = length-bits e.rules many below 1 hs ∙ ap (room e.rules below) names;
        meets = λ v a.
            rw (asked-roots D e.starts ts z) at
            (clauses_true e.rules many v below 1 hs (good_roots e.rules many v below e.starts ts whole) a);
        gives = λ v a.
            kept_roots D e.starts ts _ z
            (rw names at
            (trees_kept e.rules many v below 1 hs (good_roots e.rules many v below e.starts ts whole) a));
      },
    )

-- values that are those of the list are read from it
pub agrees-value : (v : ℕ → Bool) (bs : List Bool) → ((y : ℕ) → y < 1 + length bs → v y ≡ value_at (true ∷ bs) y) →
    Agrees v 1 bs
agrees-value v bs f = agrees-same v (value_at (true ∷ bs)) 1 bs f (agrees-value_at bs)

-- blocks

module _ (e : Encoding) (is : IsEncoding e) (fields : List (List ℕ)) (over : AreOver e (length fields)) where
  suits : AllSuit e.rules e.width (length fields)
  suits = all_suit e is (length fields) over

  read_all : (v : ℕ → Bool) (long : All (λ word. length word ≡ e.width) fields) (ns : List ℕ) (ts : List Tree)
      (ws : List (List ℕ)) →
      AllThree (Shows e.rules e.width is.some_bit fields v long suits) ns ts ws →
      ReadAs (record e { starts = ns }) fields v ts ws
  read_all v long [] [] [] h = record { bits = All-nil (λ word. length word ≡ e.width); values = refl }
  read_all v long [] [] (x ∷ ws) h = absurd h
  read_all v long [] (t ∷ ts) ws h = absurd h
  read_all v long (n ∷ ns) [] ws h = absurd h
  read_all v long (n ∷ ns) (t ∷ ts) [] h = absurd h
  read_all v long (n ∷ ns) (t ∷ ts) (x ∷ ws) h =
      let rest = read_all v long ns ts ws h.1 in
      record {
        bits = All-cons (λ word. length word ≡ e.width) x ws h.0.bits rest.bits;
        values = rw (h.0.value, rest.values) refl;
      }

  -- a block's words read as the values of the decoded tuple
  pub block_reads : (v : ℕ → Bool) (long : All (λ word. length word ≡ e.width) fields) →
      Means v (block e fields) (ReadAs e fields v (decoded e v))
  block_reads v long =
      Means-weaker (words_mean e.rules e.width is.some_bit fields v long suits (e.depth - 1) e.starts 1)
      (λ ws h. let r = read_all v long e.starts _ ws h in record { bits = r.bits; values = r.values })

  words_all : (vars : ℕ) (ns : List ℕ) (ws : List (List ℕ)) →
      Worded e.rules e.width is.some_bit fields suits vars ns ws →
      (length ws ≡ length ns) × All (IsWord e.width vars) ws
  words_all vars [] [] h = (refl, All-nil (IsWord e.width vars))
  words_all vars [] (x ∷ ws) h = absurd h
  words_all vars (n ∷ ns) [] h = absurd h
  words_all vars (n ∷ ns) (x ∷ ws) h =
      let rest = words_all vars ns ws h.1 in (ap suc rest.0, All-cons (IsWord e.width vars) x ws h.0 rest.1)

  -- a block makes gates, as many as it weighs at most
  pub block_makes : (p : Place) → 1 + selectors_of e ≤ p.next → All (IsWord e.width p.next) fields →
      MakesGates (block e fields) (weight_of_block e) (AreOutputs e) p
  block_makes p l hf =
      Makes-weaker
      (Makes-words e.rules e.width is.some_bit fields suits (e.depth - 1) e.starts 1 p (omega (arith, l)) hf l)
      (λ vars ws m h. let all = words_all vars e.starts ws h in record { many = all.0; each = all.1 })
