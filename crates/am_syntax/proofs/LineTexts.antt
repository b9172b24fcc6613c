-- The text of a line of a key word and entries.
use Rattle.std.proofs.Common.{◌≡◌, ℕ, zero, suc, Bool, true, false, ◌||◌, not, List, [], ◌∷◌, ◌++◌, codes, All}
use Rattle.std.proofs.Common.{bytes_eq, decimal, flat_map, map, ap, ◌∙◌, refl, sym, subst, arith, append_assoc}
use Rattle.std.proofs.Common.{append-nil}
use Rattle.std.specs.Prelude.{IsTrue}
use Rattle.std.specs.List.{AllByRecursion}
use Rattle.am_bv.specs.declared.term.Term.{Term as Tree}
use Rattle.am_syntax.specs.declared.limits.Letter.{Letter}
use Rattle.am_syntax.specs.declared.lines.Entry.{Entry}
use Rattle.am_syntax.specs.declared.lines.Entry.TheVariants.{Word as word, Number, Numbers, Bytes, Term, Terms}
use Rattle.am_syntax.specs.Canonical.{line, spaced, spaced_after, term_text}
use Rattle.am_syntax.specs.Lines.{AreEntries, IsLineEntry, entry_words, is_apart, words_of_entries}
use Rattle.am_syntax.specs.Readers.{Word, Words}
use Rattle.am_syntax.specs.Spelling.{FitsSomewhere, letter_code, term_words}
use Rattle.am_syntax.proofs.SpacedLaws.{StandApart, spaced-word, term_apart, word_apart}
use Rattle.am_syntax.proofs.WordTokens.{number_apart}

-- ---- words after others

-- words that stand after others as they do alone, whatever follows them
abbrev StandAfter : Words → Type 0
StandAfter us = (ws : Words) → spaced_after (us ++ ws) ≡ spaced_after us ++ spaced_after ws

-- a space stands before words that stand apart
after_apart : (us : Words) → StandApart us → spaced_after us ≡ 32 ∷ spaced us
after_apart us one = subst (λ (ws : Words). spaced_after ws ≡ 32 ∷ spaced ws) (append-nil us) (one.behind [])

apart_after : (us : Words) → StandApart us → StandAfter us
apart_after us one ws =
    one.behind ws
    ∙ ap (λ (bs : List ℕ). 32 ∷ bs) (one.before ws)
    ∙ ap (λ (bs : List ℕ). bs ++ spaced_after ws) (sym (after_apart us one))

both_after : (us vs : Words) → StandAfter us → StandAfter vs → StandAfter (us ++ vs)
both_after us vs one two ws =
    ap spaced_after (append_assoc us vs ws)
    ∙ one (vs ++ ws)
    ∙ ap (λ (bs : List ℕ). spaced_after us ++ bs) (two ws)
    ∙ sym (append_assoc (spaced_after us) (spaced_after vs) (spaced_after ws))
    ∙ ap (λ (bs : List ℕ). bs ++ spaced_after ws) (sym (one vs))

module _ {A : Type 0} (words : A → Words) where
  abbrev EachAfter : List A → Type 0
  EachAfter xs = AllByRecursion (λ x. StandAfter (words x)) xs

  each_one_after : (xs : List A) → EachAfter xs → StandAfter (flat_map words xs)
  each_one_after [] each ws = refl
  each_one_after (x ∷ xs) each ws = both_after (words x) (flat_map words xs) each.0 (each_one_after xs each.1) ws

  after_each : (xs : List A) → EachAfter xs → spaced_after (flat_map words xs) ≡ flat_map (λ x. spaced_after (words x))
      xs
  after_each [] each = refl
  after_each (x ∷ xs) each =
      each.0 (flat_map words xs) ∙ ap (λ (bs : List ℕ). spaced_after (words x) ++ bs) (after_each xs each.1)

-- ---- the kinds of entries

neither : (a b : Bool) → not (a || b) ≡ true → (a ≡ false) × (b ≡ false)
neither true b h = absurd cc
neither false true h = absurd cc
neither false false h = (refl, refl)

word_opens : (v : Word) → IsTrue (is_apart v) → bytes_eq v (codes "(") ≡ false
word_opens v h = (neither (bytes_eq v (codes "(")) (bytes_eq v (codes ")")) h).0

-- a word that is no parenthesis stands apart
key_apart : (v : Word) → IsTrue (is_apart v) → StandApart (v ∷ [])
key_apart v h = word_apart v (word_opens v h) (neither (bytes_eq v (codes "(")) (bytes_eq v (codes ")")) h).1

-- a word after a space
pub after_word : (v : Word) → IsTrue (is_apart v) → spaced_after (v ∷ []) ≡ 32 ∷ v
after_word v h = after_apart (v ∷ []) (key_apart v h)

numbers_after : (ns : List ℕ) → StandAfter (map decimal ns)
numbers_after [] ws = refl
numbers_after (n ∷ ns) ws =
    both_after (decimal n ∷ []) (map decimal ns) (apart_after (decimal n ∷ []) (number_apart n))
    (numbers_after ns) ws

-- a number after a space
pub after_number : (n : ℕ) → spaced_after (decimal n ∷ []) ≡ 32 ∷ decimal n
after_number n = after_apart (decimal n ∷ []) (number_apart n)

-- numbers, each after a space
pub after_numbers : (ns : List ℕ) → spaced_after (map decimal ns) ≡ flat_map (λ n. 32 ∷ decimal n) ns
after_numbers [] = refl
after_numbers (n ∷ ns) =
    apart_after (decimal n ∷ []) (number_apart n) (map decimal ns)
    ∙ ap (λ (bs : List ℕ). bs ++ spaced_after (map decimal ns)) (after_number n)
    ∙ ap (λ (bs : List ℕ). (32 ∷ decimal n) ++ bs) (after_numbers ns)

module _ (l : Letter) where
  own_apart : (t : Tree) → FitsSomewhere t → StandApart (term_words (letter_code l) t)
  own_apart t fits = term_apart l fits.scope fits.is t fits.fit

  -- a term after a space
  pub after_term : (t : Tree) → FitsSomewhere t →
      spaced_after (term_words (letter_code l) t) ≡ 32 ∷ term_text (letter_code l) t
  after_term t fits = after_apart (term_words (letter_code l) t) (own_apart t fits)

  terms_each : (ts : List Tree) → All FitsSomewhere ts → EachAfter (term_words (letter_code l)) ts
  terms_each [] fit = tt
  terms_each (t ∷ ts) fit = (
    apart_after (term_words (letter_code l) t) (own_apart t (fit zero t (omega arith))),
    terms_each ts (λ k d below. fit (suc k) d (omega (arith, below))),
  )

  -- terms, each after a space
  pub after_terms : (ts : List Tree) → All FitsSomewhere ts →
      spaced_after (flat_map (term_words (letter_code l)) ts) ≡ flat_map (λ t. 32 ∷ term_text (letter_code l) t) ts
  after_terms [] fit = refl
  after_terms (t ∷ ts) fit =
      let behind = terms_each (t ∷ ts) fit in
      behind.0 (flat_map (term_words (letter_code l)) ts)
      ∙ ap (λ (bs : List ℕ). bs ++ spaced_after (flat_map (term_words (letter_code l)) ts))
      (after_term t (fit zero t (omega arith)))
      ∙ ap (λ (bs : List ℕ). (32 ∷ term_text (letter_code l) t) ++ bs)
      (after_terms ts (λ k d below. fit (suc k) d (omega (arith, below))))

entry_stands_after : (e : Entry) → IsLineEntry e → StandAfter (entry_words e)
entry_stands_after (word v) is = apart_after (v.now ∷ []) (key_apart v.now is)
entry_stands_after (Number n) is = apart_after (decimal n ∷ []) (number_apart n)
entry_stands_after (Numbers ns) is = numbers_after ns.now
entry_stands_after (Bytes bs) is = numbers_after bs.now
entry_stands_after (Term letter t) is = apart_after (term_words (letter_code letter) t.now) (own_apart letter t.now is)
entry_stands_after (Terms letter ts) is = each_one_after (term_words (letter_code letter)) ts.now
    (terms_each letter ts.now is)

-- ---- the line

entries_after : (es : List Entry) → AreEntries es → EachAfter entry_words es
entries_after [] are = tt
entries_after (e ∷ es) are = (entry_stands_after e are.0, entries_after es are.1)

-- the key word, the entries and a newline
pub line_text : (key : Word) (es : List Entry) → IsTrue (is_apart key) → AreEntries es →
    line (key ∷ words_of_entries es) ≡ key ++ (flat_map (λ e. spaced_after (entry_words e)) es ++ 10 ∷ [])
unfolding line
line_text key es apart are =
    ap (λ (bs : List ℕ). bs ++ 10 ∷ [])
    (spaced-word key (words_of_entries es) (word_opens key apart)
    ∙ ap (λ (bs : List ℕ). key ++ bs) (after_each entry_words es (entries_after es are)))
    ∙ append_assoc key (flat_map (λ e. spaced_after (entry_words e)) es) (10 ∷ [])
