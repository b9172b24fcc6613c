-- The clauses of a template stand over its selectors.
use Rattle.std.proofs.Common.{◌≡◌, ℕ, zero, suc, ◌+◌, ◌-◌, ◌*◌, ◌/◌, ◌<◌, ◌≤◌, Bool, true, false, cond, List, [], ◌∷◌}
use Rattle.std.proofs.Common.{◌++◌, map, length, refl, sym, ◌∙◌, ap, subst, arith}
use Rattle.std.specs.Prelude.{All, IsTrue}
use Rattle.std.specs.List.{AllByRecursion, list_any, range_with_len}
use Rattle.std.proofs.lemmas.List.{append-nil}
use Rattle.std.proofs.lemmas.List.Elements.{All-nil, All-from_recursion}
use Rattle.std.proofs.lemmas.List.Sums.{sum_by-cons}
use Rattle.am_gate.specs.Circuit.{Event, Event.Input, Event.And, Event.Xor, Event.Mux, Event.Clause, AreScoped, makes}
use Rattle.am_gate.specs.Circuit.{inputs_of}
use Rattle.am_gate.specs.Build.{Place, past, ◌>>=◌, answer, ask, tell, Means}
use Rattle.am_lit.proofs.Laws.{variable_of-opposite_of}
use Rattle.am_gate.proofs.Laws.{never-input, AreScoped-append, past-append, Reaches-gates}
use Rattle.am_gate.specs.Reaches.{Reaches}
use Rattle.am_lit.specs.Literal.{variable_of, opposite_of}
use Rattle.am_lit.specs.Truth.{value_at}
use Rattle.am_tree.specs.declared.slots.Argument.{Argument}
use Rattle.am_tree.specs.declared.tree.Tree.{Tree}
use Rattle.am_tree.specs.Trees.{Rules}
use Rattle.am_tree.specs.Slots.{Numbered, same, arguments, offered, shared}
use Rattle.am_slot.specs.Selectors.{width, widths, room, selector, selectors}
use Rattle.am_slot.specs.declared.clauses.Asked.{Asked}
use Rattle.am_slot.specs.Clauses.{root, asks, pairs, children, slot_clauses, level_clauses, next_asked, symbols}
use Rattle.am_slot.specs.Clauses.{clauses_from}
use Rattle.am_slot.specs.Encoding.{Encoding, IsEncoding, AreOver}
use Rattle.am_slot.specs.Template.{selectors_of, slot_clauses_of, inputs, told, template, decoded, block}
use Rattle.am_slot.specs.Template.{IsDerivedTuple}
use Rattle.am_slot.specs.Template.{AreOutputs, ReadAs}
use Rattle.am_slot.specs.Theorems.{Serves, AgreeOnSelectors, KeepsTuple, MakesSelectors}
use Rattle.am_slot.proofs.Derived.{symbols-next}
use Rattle.am_slot.proofs.Whole.{template_from, template_to, tuple_derives, Chooses, tuple_chosen, agrees-value}
use Rattle.am_slot.proofs.Whole.{block_reads, block_makes}
use Rattle.am_blast.specs.Words.{IsWord}

module _ (n : ℕ) where
  -- each literal is one of an earlier variable
  abbrev pub Inside : List ℕ → Type 0
  Inside c = AllByRecursion (λ l. variable_of l < n) c

  abbrev pub AllInside : List (List ℕ) → Type 0
  AllInside cs = AllByRecursion Inside cs

  joined : (c d : List ℕ) → Inside c → Inside d → Inside (c ++ d)
  joined [] d h k = k
  joined (l ∷ c) d h k = (h.0, joined c d h.1 k)

  pub all_joined : (cs ds : List (List ℕ)) → AllInside cs → AllInside ds → AllInside (cs ++ ds)
  all_joined [] ds h k = k
  all_joined (c ∷ cs) ds h k = (h.0, all_joined cs ds h.1 k)

  selector-in : (x : ℕ) → x < n → variable_of (selector x) < n
  selector-in x h = let half : (2 * x) / 2 ≡ x = omega arith in rw half h

  opposite-in : (l : ℕ) → variable_of l < n → variable_of (opposite_of l) < n
  opposite-in l h = rw (variable_of-opposite_of l) h

  selectors-in : (x : ℕ) (ps : List Numbered) → x + length ps ≤ n → Inside (selectors x ps)
  selectors-in x [] h = tt
  selectors-in x (p ∷ ps) h =
      let first : x < n = omega (arith, h) in (selector-in x first, selectors-in (x + 1) ps (omega (arith, h)))

  asks-in : (a : Argument) (x : ℕ) (ps : List Numbered) → x + length ps ≤ n → AllInside (asks a x ps)
  asks-in a x [] h = tt
  asks-in a x (p ∷ ps) h =
      let first : x < n = omega (arith, h) in
      go (list_any (same a) (arguments p.production)) (asks a (x + 1) ps)
      (opposite-in (selector x) (selector-in x first)) (asks-in a (x + 1) ps (omega (arith, h)))
    where
      go : (b : Bool) (rest : List (List ℕ)) → variable_of (opposite_of (selector x)) < n → AllInside rest →
          AllInside (cond b ((opposite_of (selector x) ∷ []) ∷ rest) rest)
      go true rest f k = ((f, tt), k)
      go false rest f k = k

  asking-in : (own : List ℕ) (by : List (List ℕ)) → Inside own → AllInside by → AllInside (map (λ a. a ++ own) by)
  asking-in own [] h k = tt
  asking-in own (a ∷ by) h k = (joined a own k.0 h, asking-in own by h k.1)

  pairs_of-in : (l : ℕ) (ls : List ℕ) → variable_of l < n → Inside ls →
      AllInside (map (λ m. opposite_of l ∷ opposite_of m ∷ []) ls)
  pairs_of-in l [] h k = tt
  pairs_of-in l (m ∷ ls) h k = ((opposite-in l h, (opposite-in m k.0, tt)), pairs_of-in l ls h k.1)

  pairs-in : (ls : List ℕ) → Inside ls → AllInside (pairs ls)
  pairs-in [] h = tt
  pairs-in (l ∷ ls) h =
      all_joined (map (λ m. opposite_of l ∷ opposite_of m ∷ []) ls) (pairs ls) (pairs_of-in l ls h.0 h.1)
      (pairs-in ls h.1)

  abbrev pub AskedInside : List Asked → Type 0
  AskedInside ss = AllByRecursion (λ s. AllInside s.by) ss

  module _ (rules : Rules) where
    level-in : (below x : ℕ) (ss : List Asked) → AskedInside ss → x + widths rules below (symbols ss) ≤ n →
        AllInside (level_clauses rules below x ss)
    level-in below x [] h l = tt
    level-in below x (s ∷ ss) h l =
        let own = selectors x (offered rules below s.symbol) in
        let wide : x + (width rules below s.symbol + widths rules below (symbols ss)) ≤ n =
        omega (arith, l, sum_by-cons (width rules below) s.symbol (symbols ss)) in
        let mine : Inside own = selectors-in x (offered rules below s.symbol) (omega (arith, wide)) in
        all_joined (slot_clauses s.by own) (level_clauses rules below (x + width rules below s.symbol) ss)
        (all_joined (map (λ a. a ++ own) s.by) (pairs own) (asking-in own s.by mine h.0) (pairs-in own mine))
        (level-in below (x + width rules below s.symbol) ss h.1 (omega (arith, wide)))

    children-in : (x : ℕ) (ps : List Numbered) (ks : List Argument) (rest : List Asked) → x + length ps ≤ n →
        AskedInside rest →
        AskedInside (children x ps ks ++ rest)
    children-in x ps [] rest l h = h
    children-in x ps (k ∷ ks) rest l h = (asks-in k x ps l, children-in x ps ks rest l h)

    next-in : (below x : ℕ) (ss : List Asked) → x + widths rules below (symbols ss) ≤ n →
        AskedInside (next_asked rules below x ss)
    next-in below x [] l = tt
    next-in below x (s ∷ ss) l =
        let wide : x + (width rules below s.symbol + widths rules below (symbols ss)) ≤ n =
        omega (arith, l, sum_by-cons (width rules below) s.symbol (symbols ss)) in
        children-in x (offered rules below s.symbol) (shared rules below s.symbol) _ (omega (arith, wide))
        (next-in below (x + width rules below s.symbol) ss (omega (arith, wide)))

    pub clauses-in : (below x : ℕ) (ss : List Asked) → AskedInside ss → x + room rules below (symbols ss) ≤ n →
        AllInside (clauses_from rules below x ss)
    unfolding clauses_from room
    clauses-in zero x ss h l = level-in zero x ss h l
    clauses-in (suc below) x ss h l =
        all_joined (level_clauses rules (suc below) x ss) _ (level-in (suc below) x ss h (omega (arith, l)))
        (clauses-in below (x + widths rules (suc below) (symbols ss)) (next_asked rules (suc below) x ss)
        (next-in (suc below) x ss (omega (arith, l)))
        (rw (symbols-next rules (suc below) x ss) (omega (arith, l))))

-- the events of a template

told-scoped : (cs : List (List ℕ)) (p : Place) → AllInside p.next cs → AreScoped p.next (told cs p).events
unfolding told answer ◌>>=◌ tell past
told-scoped [] p h = tt
told-scoped (c ∷ cs) p h =
    let e : p.next ≡ p.next + 0 = omega arith in (
      All-from_recursion (λ l. variable_of l < p.next) c h.0,
      told-scoped cs (record p { next = p.next + 0 }) (subst (λ k. AllInside k cs) e h.1),
    )

told-next : (cs : List (List ℕ)) (p : Place) → (past p (told cs p).events).next ≡ p.next
unfolding told answer ◌>>=◌ tell past
told-next [] p = refl
told-next (c ∷ cs) p = told-next cs (record p { next = p.next + 0 }) ∙ omega arith

inputs-scoped : (k : ℕ) (p : Place) → AreScoped p.next (inputs k p).events
unfolding inputs answer ◌>>=◌ ask past
inputs-scoped zero p = tt
inputs-scoped (suc k) p =
    rw (never-input p.folding) (All-nil (λ l. variable_of l < p.next), inputs-scoped k (record p { next = p.next + 1 }))

inputs-next : (k : ℕ) (p : Place) → (past p (inputs k p).events).next ≡ p.next + k
unfolding inputs answer ◌>>=◌ ask past
inputs-next zero p = omega arith
inputs-next (suc k) p =
    rw (never-input p.folding) (let rest = inputs-next k (record p { next = p.next + 1 }) in omega (arith, rest))

-- the variables that inputs make

inputs_of-append : (p : Place) (es fs : List Event) →
    inputs_of p.next (es ++ fs) ≡ inputs_of p.next es ++ inputs_of (past p es).next fs
unfolding past
inputs_of-append p [] fs = refl
inputs_of-append p (Input ∷ es) fs =
    ap (λ (l : List ℕ). p.next ∷ l) (inputs_of-append (record p { next = p.next + 1 }) es fs)
inputs_of-append p (And a b ∷ es) fs = inputs_of-append (record p { next = p.next + 1 }) es fs
inputs_of-append p (Xor a b ∷ es) fs = inputs_of-append (record p { next = p.next + 1 }) es fs
inputs_of-append p (Mux c a b ∷ es) fs = inputs_of-append (record p { next = p.next + 1 }) es fs
inputs_of-append p (Clause c ∷ es) fs =
    let same : p.next + 0 ≡ p.next = omega arith in
    subst (λ n. inputs_of n (es ++ fs) ≡ inputs_of n es ++ inputs_of (past (record p { next = p.next + 0 }) es).next fs)
    same (inputs_of-append (record p { next = p.next + 0 }) es fs)

past-folding : (p : Place) (es : List Event) → (past p es).folding ≡ p.folding
unfolding past
past-folding p [] = refl
past-folding p (e ∷ es) = past-folding (record p { next = p.next + makes e }) es

inputs-inputs : (k : ℕ) (p : Place) → inputs_of p.next (inputs k p).events ≡ range_with_len p.next k
unfolding inputs answer ◌>>=◌ ask past
inputs-inputs zero p = refl
inputs-inputs (suc k) p =
    rw (never-input p.folding) (ap (λ (l : List ℕ). p.next ∷ l) (inputs-inputs k (record p { next = p.next + 1 })))

told-inputs : (cs : List (List ℕ)) (p : Place) (g : ℕ) → inputs_of g (told cs p).events ≡ []
unfolding told answer ◌>>=◌ tell past
told-inputs [] p g = refl
told-inputs (c ∷ cs) p g = told-inputs cs (record p { next = p.next + 0 }) g

roots-in : (n : ℕ) (starts : List ℕ) → AskedInside n (map root starts)
roots-in n [] = tt
roots-in n (s ∷ starts) = ((tt, tt), roots-in n starts)

symbols-roots : (starts : List ℕ) → symbols (map root starts) ≡ starts
symbols-roots [] = refl
symbols-roots (s ∷ starts) = ap (λ (l : List ℕ). s ∷ l) (symbols-roots starts)

below_one : (bs : List Bool) (v : ℕ → Bool) → IsTrue (v 0) → (x : ℕ) → x < 1 → value_at (true ∷ bs) x ≡ v x
below_one bs v t zero l = sym t
below_one bs v t (suc x) l = absurd (omega (arith, l))

-- each clause is over the selectors alone
pub all-inside : (e : Encoding) (n : ℕ) → 1 + selectors_of e ≤ n → AllInside n (slot_clauses_of e)
all-inside e n l =
    clauses-in n e.rules (e.depth - 1) 1 (map root e.starts) (roots-in n e.starts) (rw (symbols-roots e.starts) l)

module _ (e : Encoding) (p : Place) (first : p.next ≡ 1) where
  behind : Place
  behind = past p (inputs (selectors_of e) p).events

  there : behind.next ≡ 1 + selectors_of e
  unfolding behind
  there = inputs-next (selectors_of e) p ∙ ap (λ j. j + selectors_of e) first

  template-scoped : AreScoped p.next (template e p).events
  unfolding template ◌>>=◌ behind
  template-scoped =
      AreScoped-append p (inputs (selectors_of e) p).events (told (slot_clauses_of e) behind).events
      (inputs-scoped (selectors_of e) p)
      (told-scoped (slot_clauses_of e) behind (all-inside e behind.next (omega (arith, there))))

  template-next : (past p (template e p).events).next ≡ 1 + selectors_of e
  unfolding template ◌>>=◌ behind
  template-next =
      ap (λ (z : Place). z.next) (past-append p (inputs (selectors_of e) p).events
      (told (slot_clauses_of e) behind).events)
      ∙ told-next (slot_clauses_of e) behind ∙ there

-- a template makes its selectors, and clauses over them
pub template_makes : (e : Encoding) (p : Place) → p.next ≡ 1 → MakesSelectors e p
unfolding template ◌>>=◌ behind
template_makes e p first = record {
  scoped = template-scoped e p first;
  inputs =
      inputs_of-append p (inputs (selectors_of e) p).events (told (slot_clauses_of e) (behind e p first)).events
      ∙ rw (told-inputs (slot_clauses_of e) (behind e p first) (behind e p first).next) (append-nil _)
      ∙ inputs-inputs (selectors_of e) p
      ∙ ap (λ n. range_with_len n (selectors_of e)) first;
  next = template-next e p first;
  same = past-folding p (template e p).events;
}

-- from truth values to a tuple

-- what meets a template decodes to a tuple that derives, and serves every block
pub assignments_serve : (e : Encoding) → IsEncoding e → (v : ℕ → Bool) →
    Means v (template e) (λ u. Serves e v (decoded e v))
assignments_serve e is v = record {
  holds = λ p t h. record {
    derived = tuple_derives e is v (template_from e v p h);
    blocks = λ fields over long. block_reads e is fields over v long;
  };
}

-- from a tuple to truth values

pub block_reached : (e : Encoding) → IsEncoding e → (fields : List (List ℕ)) → AreOver e (length fields) →
    (v : ℕ → Bool) → IsTrue (v 0) →
    (p : Place) → 1 + selectors_of e ≤ p.next → All (IsWord e.width p.next) fields →
    Reaches v (block e fields) p (λ u q words. AreOutputs e q.next words × ReadAs e fields u (decoded e u) words)
block_reached e is fields over v t p l words =
    let r = Reaches-gates (omega (arith, l)) t
    (block_makes e is fields over p l words)
    (λ u same. block_reads e is fields over u (λ i d k. (words i d k).bits)) in
    record { scoped = r.scoped; values = r.values; below = r.below; meets = r.meets; given = (r.given.0, r.given.1) }

module _ (e : Encoding) (is : IsEncoding e) (ts : List Tree) where
  keeps : (bs : List Bool) → Chooses e ts bs → KeepsTuple e (value_at (true ∷ bs)) ts
  keeps bs c =
      let decodes =
      λ (v : ℕ → Bool) (a : AgreeOnSelectors e v (value_at (true ∷ bs))).
      c.gives v (agrees-value v bs (λ y l. a y (omega (arith, l, c.long)))) in
      record {
        decodes = decodes;
        blocks = λ v a p l fields over words.
            let r = block_reached e is fields over v (a 0 (omega arith)) p l words in
            let same : AgreeOnSelectors e r.values (value_at (true ∷ bs)) =
            λ x k. r.below x (omega (arith, k, l)) ∙ a x k in
            record {
              scoped = r.scoped;
              values = r.values;
              below = r.below;
              meets = r.meets;
              given = (r.given.0, rw (decodes r.values same) at r.given.1);
            };
      }

  -- the tuple is decoded from some truth values, which serve every block
  pub tuple_reached : IsDerivedTuple e ts → (v : ℕ → Bool) → IsTrue (v 0) → (p : Place) → p.next ≡ 1 →
      Reaches v (template e) p (λ u q a. (q.next ≡ 1 + selectors_of e) × KeepsTuple e u ts)
  tuple_reached h v t p first =
      let r = tuple_chosen e is ts h in
      record {
        scoped = template-scoped e p first;
        values = value_at (true ∷ r.0);
        below = λ x l. below_one r.0 v t x (omega (arith, l, first));
        meets =
            template_to e (value_at (true ∷ r.0)) p
            (r.1.meets (value_at (true ∷ r.0)) (agrees-value (value_at (true ∷ r.0)) r.0 (λ y l. refl)));
        given = (template-next e p first, keeps r.0 r.1);
      }
