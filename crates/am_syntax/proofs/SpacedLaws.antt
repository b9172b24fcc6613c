-- Words between spaces, and the text of each kind of term.
use Rattle.std.proofs.Common.{◌≡◌, ℕ, Bool, true, false, cond, ◌||◌, List, [], ◌∷◌, ◌++◌, length, decimal, flat_map}
use Rattle.std.proofs.Common.{codes, bytes_eq, ap, subst, ◌∙◌, sym, refl, append_assoc}
use Rattle.std.specs.Prelude.{◌==◌}
use Rattle.std.specs.List.{AllByRecursion, list_all}
use Rattle.std.proofs.lemmas.Bool.{and_parts, ltb-true}
use Rattle.std.proofs.lemmas.List.{append-nil}
use Rattle.am_bv.specs.Operators.{arity}
use Rattle.am_bv.specs.Terms.{fits}
use Rattle.am_bv.specs.declared.op.Op.{Op}
use Rattle.am_bv.specs.declared.term.Term.{Term}
use Rattle.am_bv.specs.declared.term.Term.TheVariants.{Const, Field, Node}
use Rattle.am_bv.proofs.Laws.{by_induction, fits-Const, fits-Node}
use Rattle.am_syntax.specs.Canonical.{spaced, spaced_after, term_text}
use Rattle.am_syntax.specs.Names.{op_name}
use Rattle.am_syntax.specs.Readers.{Word, Words}
use Rattle.am_syntax.specs.declared.limits.Letter.{Letter}
use Rattle.am_syntax.specs.Numerals.{is_digits}
use Rattle.am_syntax.specs.Spelling.{IsScope, Scope, letter_code, term_words}
use Rattle.am_syntax.proofs.EachOperator.{each_op}
use Rattle.am_syntax.proofs.NumeralLaws.{decimal-is_digits}
use Rattle.am_syntax.proofs.TermWords.{digits_apart, letter_closes, letter_opens, narrow, words-Const, words-Field}
use Rattle.am_syntax.proofs.TermWords.{words-Node}

-- ---- the text of each kind of term

-- a word that opens nothing, and what follows it
pub spaced-word : (v : Word) (ws : Words) → bytes_eq v (codes "(") ≡ false → spaced (v ∷ ws) ≡ v ++ spaced_after ws
spaced-word v [] h = sym (append-nil v)
spaced-word v (w ∷ ws) h = ap (λ b. v ++ (cond (b || bytes_eq w (codes ")")) [] (32 ∷ []) ++ spaced (w ∷ ws))) h

-- words that stand between spaces: other words follow after a space, and so do they
pub record StandApart (us : Words) : Type 0 where
  pub before : (ws : Words) → spaced (us ++ ws) ≡ spaced us ++ spaced_after ws
  pub behind : (ws : Words) → spaced_after (us ++ ws) ≡ 32 ∷ spaced (us ++ ws)

-- a word that is no parenthesis stands apart
pub word_apart : (v : Word) → bytes_eq v (codes "(") ≡ false → bytes_eq v (codes ")") ≡ false → StandApart (v ∷ [])
word_apart v opens closes = record {
  before = λ ws. spaced-word v ws opens;
  behind = λ ws. ap (λ b. (cond b [] (32 ∷ [])) ++ spaced (v ∷ ws)) closes;
}

-- after words that stand apart comes a space, then other words that stand apart
pub spaced_apart : (us vs : Words) → StandApart us → StandApart vs → spaced (us ++ vs) ≡ spaced us ++ (32 ∷ spaced vs)
spaced_apart us vs one two =
    let alone : spaced_after vs ≡ 32 ∷ spaced vs =
    subst (λ (ws : Words). spaced_after ws ≡ 32 ∷ spaced ws) (append-nil vs) (two.behind []) in
    one.before vs ∙ ap (λ (bs : List ℕ). spaced us ++ bs) alone

-- words that stand apart, one row after another, stand apart
pub both_apart : (us vs : Words) → StandApart us → StandApart vs → StandApart (us ++ vs)
both_apart us vs one two = record {
  before = λ ws.
      ap spaced (append_assoc us vs ws)
      ∙ one.before (vs ++ ws)
      ∙ ap (λ (bs : List ℕ). spaced us ++ bs) (two.behind ws ∙ ap (λ (bs : List ℕ). 32 ∷ bs) (two.before ws))
      ∙ sym (append_assoc (spaced us) (32 ∷ spaced vs) (spaced_after ws))
      ∙ ap (λ (bs : List ℕ). bs ++ spaced_after ws) (sym (spaced_apart us vs one two));
  behind =
      λ ws. ap spaced_after (append_assoc us vs ws) ∙ one.behind (vs ++ ws)
      ∙ ap (λ (us : Words). 32 ∷ spaced us) (sym (append_assoc us vs ws));
}

regrouped : (a b c : List ℕ) → (a ++ (b ++ codes ")")) ++ c ≡ a ++ (b ++ (codes ")" ++ c))
regrouped a b c = append_assoc a (b ++ codes ")") c ∙ ap (λ (bs : List ℕ). a ++ bs) (append_assoc b (codes ")") c)

name_opens : (op : Op) → bytes_eq (op_name op) (codes "(") ≡ false
name_opens op = each_op (λ op. bytes_eq (op_name op) (codes "(")) (λ _. false) refl op

-- the text of each of a list, after a space, where each is spelled by words
module _ {A : Type 0} (words : A → Words) where
  -- a space and the text of each
  abbrev pub each_text : List A → List ℕ
  each_text xs = flat_map (λ x. 32 ∷ spaced (words x)) xs

  -- the words of each stand apart
  abbrev pub EachApart : List A → Type 0
  EachApart xs = AllByRecursion (λ x. StandApart (words x)) xs

  after_each : (xs : List A) → EachApart xs → (ws : Words) →
      spaced_after (flat_map words xs ++ ws) ≡ each_text xs ++ spaced_after ws
  after_each [] h ws = refl
  after_each (x ∷ xs) h ws =
      let rest = flat_map words xs ++ ws in
      ap spaced_after (append_assoc (words x) (flat_map words xs) ws)
      ∙ h.0.behind rest
      ∙ ap (λ (bs : List ℕ). 32 ∷ bs) (h.0.before rest
      ∙ ap (λ (bs : List ℕ). spaced (words x) ++ bs) (after_each xs h.1 ws)
      ∙ sym (append_assoc (spaced (words x)) (each_text xs) (spaced_after ws)))

  -- each of a list, after words that stand apart
  pub spaced_each : (us : Words) (xs : List A) → StandApart us → EachApart xs →
      spaced (us ++ flat_map words xs) ≡ spaced us ++ each_text xs
  spaced_each us xs one each =
      let alone : spaced_after (flat_map words xs) ≡ each_text xs =
      ap spaced_after (sym (append-nil (flat_map words xs))) ∙ after_each xs each [] ∙ append-nil (each_text xs) in
      one.before (flat_map words xs) ∙ ap (λ (bs : List ℕ). spaced us ++ bs) alone

  abbrev tail_words : List A → Words
  tail_words xs = flat_map words xs ++ codes ")" ∷ []

  -- an operator at each of a list, and what stands after it
  node_then : (op : Op) (xs : List A) → EachApart xs → (ws : Words) →
      spaced (codes "(" ∷ op_name op ∷ (tail_words xs ++ ws)) ≡
      codes "(" ++ (op_name op ++ (each_text xs ++ (codes ")" ++ spaced_after ws)))
  node_then op xs each ws =
      let tail =
      ap spaced_after (append_assoc (flat_map words xs) (codes ")" ∷ []) ws)
      ∙ after_each xs each (codes ")" ∷ ws)
      ∙ ap (λ (bs : List ℕ). each_text xs ++ bs) (spaced-word (codes ")") ws refl) in
      ap (λ (bs : List ℕ). codes "(" ++ bs) (spaced-word (op_name op) (tail_words xs ++ ws) (name_opens op)
      ∙ ap (λ (bs : List ℕ). op_name op ++ bs) tail)

  -- the text of an operator at each of a list
  pub node_text : (op : Op) (xs : List A) → EachApart xs →
      spaced (codes "(" ∷ op_name op ∷ (flat_map words xs ++ codes ")" ∷ [])) ≡
      codes "(" ++ (op_name op ++ (each_text xs ++ codes ")"))
  node_text op xs each =
      ap (λ (us : Words). spaced (codes "(" ∷ op_name op ∷ us)) (sym (append-nil (tail_words xs)))
      ∙ node_then op xs each []

  -- its words stand apart
  pub node_apart : (op : Op) (xs : List A) → EachApart xs →
      StandApart (codes "(" ∷ op_name op ∷ (flat_map words xs ++ codes ")" ∷ []))
  node_apart op xs each = record {
    before = λ ws.
        node_then op xs each ws
        ∙ ap (λ (bs : List ℕ). codes "(" ++ bs) (sym (regrouped (op_name op) (each_text xs) (spaced_after ws)))
        ∙ ap (λ (bs : List ℕ). bs ++ spaced_after ws) (sym (node_text op xs each));
    behind = λ ws. refl;
  }

-- each of a list, where a test of all of it says what each needs
pub each_so : {A : Type 0} (P : A → Type 0) (test : A → Bool) (xs : List A) →
    AllByRecursion (λ x. test x ≡ true → P x) xs →
    list_all test xs ≡ true → AllByRecursion P xs
each_so P test [] h all = tt
each_so P test (x ∷ xs) h all = let parts = and_parts _ _ all in (h.0 parts.0, each_so P test xs h.1 parts.1)

module _ (l : Letter) (scope : Scope) (is : IsScope scope) where
  abbrev code : ℕ
  code = letter_code l

  abbrev Apart : Term → Type 0
  Apart t = StandApart (term_words code t)

  abbrev Fits : Term → Type 0
  Fits t = fits scope.width scope.variables t ≡ true

  -- a constant's text is a row of digits
  pub const_digits : (c : ℕ) → Fits (Const c) → is_digits (decimal c) ≡ true
  const_digits c fit =
      decimal-is_digits c (narrow scope.width c is.width
      (ltb-true _ _ (sym (fits-Const scope.width scope.variables c) ∙ fit)))

  -- an operator's arguments fit where it does
  pub children_fit : (op : Op) (ts : List Term) → Fits (Node op ts) →
      list_all (fits scope.width scope.variables) ts ≡ true
  children_fit op ts fit =
      (and_parts (length ts == arity op) (list_all (fits scope.width scope.variables) ts)
      (sym (fits-Node scope.width scope.variables op ts) ∙ fit)).1

  -- the words of a term stand apart
  pub term_apart : (t : Term) → Fits t → StandApart (term_words code t)
  term_apart t = by_induction (λ t. Fits t → Apart t) (record {
    const = λ c fit.
        let digits = const_digits c fit in
        subst StandApart (sym (words-Const code c)) (word_apart (decimal c)
        (digits_apart (decimal c) (codes "(") digits refl) (digits_apart (decimal c) (codes ")") digits refl));
    field =
        λ i fit. subst StandApart (sym (words-Field code i))
        (word_apart (code ∷ decimal i) (letter_opens l (decimal i)) (letter_closes l (decimal i)));
    node =
        λ op ts h fit. subst StandApart (sym (words-Node code op ts))
        (node_apart (term_words code) op ts
        (each_so Apart (fits scope.width scope.variables) ts h (children_fit op ts fit)));
  }) t

  all_apart : (ts : List Term) → list_all (fits scope.width scope.variables) ts ≡ true → AllByRecursion Apart ts
  all_apart [] h = tt
  all_apart (t ∷ ts) h = let parts = and_parts _ _ h in (term_apart t parts.0, all_apart ts parts.1)

  -- the text of an operator at terms
  pub text-Node : (op : Op) (ts : List Term) → Fits (Node op ts) →
      term_text code (Node op ts) ≡
      codes "(" ++ (op_name op ++ (flat_map (λ t. 32 ∷ term_text code t) ts ++ codes ")"))
  text-Node op ts fit =
      ap spaced (words-Node code op ts) ∙ node_text (term_words code) op ts (all_apart ts (children_fit op ts fit))

-- the text of a constant, and of a variable
pub text-Const : (letter c : ℕ) → term_text letter (Const c) ≡ decimal c
text-Const letter c = ap spaced (words-Const letter c)

-- the text of a variable is its letter and its number
pub text-Field : (letter i : ℕ) → term_text letter (Field i) ≡ letter ∷ decimal i
text-Field letter i = ap spaced (words-Field letter i)
