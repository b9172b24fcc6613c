-- The words of a term and how deep it nests, variant by variant, and what tells single words apart.
use Rattle.std.proofs.Common.{◌≡◌, ℕ, ◌+◌, ◌^◌, ◌<◌, ◌≤◌, true, false, List, [], ◌∷◌, ◌++◌, map, decimal, flat_map}
use Rattle.std.proofs.Common.{codes, bytes_eq, ap, ◌∙◌, sym, refl, arith, lit<}
use Rattle.std.proofs.Math.Nat.{pow-le-pow_right}
use Rattle.std.proofs.lemmas.Bool.{false_from_ne_true}
use Rattle.am_text.specs.Tokens.{Left}
use Rattle.am_bv.specs.declared.op.Op.{Op}
use Rattle.am_bv.specs.declared.term.Term.{Term}
use Rattle.am_bv.specs.declared.term.Term.TheOpen.{Const as Const-F, Field as Field-F, Node as Node-F}
use Rattle.am_bv.specs.declared.term.Term.TheVariants.{Const, Field, Node, outs-Const, outs-Field, outs-Node}
use Rattle.am_bv.proofs.Laws.{fold_at}
use Rattle.am_syntax.specs.declared.limits.Letter.{Letter}
use Rattle.am_syntax.specs.declared.limits.Letter.TheVariants.{X, F}
use Rattle.am_syntax.specs.Names.{op_name, operator}
use Rattle.am_syntax.specs.Numerals.{is_capital, is_digit, is_digits}
use Rattle.am_syntax.specs.Readers.{Word, Words}
use Rattle.am_syntax.specs.Spelling.{greatest, letter_code, nesting, nesting_step, term_words, term_words_step}
use Rattle.am_syntax.proofs.PieceLaws.{same_bytes}
use Rattle.am_syntax.specs.Exact.{Takes}

-- ---- the definitions, variant by variant

-- the words of a constant, of a variable and of an operator at terms
pub words-Const : (letter c : ℕ) → term_words letter (Const c) ≡ decimal c ∷ []
unfolding term_words
words-Const letter c = fold_at (term_words_step letter) (Const c) (Const-F c) (outs-Const c)

-- a variable is one word: its letter and its number
pub words-Field : (letter i : ℕ) → term_words letter (Field i) ≡ (letter ∷ decimal i) ∷ []
unfolding term_words
words-Field letter i = fold_at (term_words_step letter) (Field i) (Field-F i) (outs-Field i)

joined : {A : Type 0} (f : A → Words) (xs : List A) → flat_map (λ w. w) (map f xs) ≡ flat_map f xs
joined f [] = refl
joined f (x ∷ xs) = ap (λ ws. f x ++ ws) (joined f xs)

-- an operator's term: parenthesis, name, the arguments' words, parenthesis
pub words-Node : (letter : ℕ) (op : Op) (ts : List Term) →
    term_words letter (Node op ts) ≡ codes "(" ∷ op_name op ∷ (flat_map (term_words letter) ts ++ codes ")" ∷ [])
unfolding term_words
words-Node letter op ts =
    fold_at (term_words_step letter) (Node op ts) (Node-F op ts) (outs-Node op ts)
    ∙ ap (λ ws. codes "(" ∷ op_name op ∷ (ws ++ codes ")" ∷ [])) (joined (term_words letter) ts)

-- how deep a constant, a variable and an operator at terms nest
pub nesting-Const : (c : ℕ) → nesting (Const c) ≡ 0
unfolding nesting
nesting-Const c = fold_at nesting_step (Const c) (Const-F c) (outs-Const c)

-- a variable opens no parenthesis
pub nesting-Field : (i : ℕ) → nesting (Field i) ≡ 0
unfolding nesting
nesting-Field i = fold_at nesting_step (Field i) (Field-F i) (outs-Field i)

-- an operator nests one deeper than its deepest argument
pub nesting-Node : (op : Op) (ts : List Term) → nesting (Node op ts) ≡ 1 + greatest (map nesting ts)
unfolding nesting
nesting-Node op ts = fold_at nesting_step (Node op ts) (Node-F op ts) (outs-Node op ts)

-- an operator's name is one word
pub opened_op : (op : Op) (s t : Left) → Takes s (operator.spell op) t → Takes s (op_name op ∷ []) t
unfolding operator
opened_op op s t p = p

-- the word of an operator's name spells the operator
pub closed_op : (op : Op) (s t : Left) → Takes s (op_name op ∷ []) t → Takes s (operator.spell op) t
unfolding operator
closed_op op s t p = p

-- ---- single words

-- a word of at most 8 bits has a numeral
pub narrow : (w n : ℕ) → w ≤ 8 → n < 2 ^ w → n < 2 ^ 64
narrow w n small h =
    let most : 2 ^ w ≤ 2 ^ 8 = pow-le-pow_right (lit< tt) small in
    omega arith

-- the letter of a variable is no digit, no capital letter and no parenthesis
pub letter_digit : (l : Letter) → is_digit (letter_code l) ≡ false
letter_digit X = refl
letter_digit F = refl

-- it is no capital letter
pub letter_capital : (l : Letter) → is_capital (letter_code l) ≡ false
letter_capital X = refl
letter_capital F = refl

-- no variable is an opening parenthesis
pub letter_opens : (l : Letter) (v : Word) → bytes_eq (letter_code l ∷ v) (codes "(") ≡ false
letter_opens X v = refl
letter_opens F v = refl

-- nor a closing one
pub letter_closes : (l : Letter) (v : Word) → bytes_eq (letter_code l ∷ v) (codes ")") ≡ false
letter_closes X v = refl
letter_closes F v = refl

-- a row of digits differs from a word that is none
pub digits_apart : (v key : Word) → is_digits v ≡ true → is_digits key ≡ false → bytes_eq v key ≡ false
digits_apart v key h k =
    false_from_ne_true _ (λ e. let f : is_digits key ≡ true = ap is_digits (sym (same_bytes v key e)) ∙ h in
    absurd (let g : true ≡ false = sym f ∙ k in cc))
