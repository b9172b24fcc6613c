-- Canonical texts: words with one space between two, but none after an opening parenthesis nor before a closing one.
use Rattle.std.specs.Prelude.{◌≡◌, ℕ, ◌||◌, true, if◌then◌else◌, List, [], ◌∷◌, ◌++◌, bytes_eq, codes, flat_map, ◌⊎◌}
use Rattle.std.specs.Prelude.{Result, Ok, Err}
use Rattle.std.specs.List.{AllByRecursion, list_all}
use Rattle.am_text.specs.Tokens.{IsParenthesis, IsTokenWord, is_allowed}
use Rattle.am_bv.specs.declared.term.Term.{Term}
use Rattle.am_syntax.specs.Readers.{Word, Words}
use Rattle.am_syntax.specs.Spelling.{term_words}

-- what stands between two words
abbrev pub gap : Word → Word → List ℕ
gap v w = if bytes_eq v (codes "(") || bytes_eq w (codes ")") then [] else 32 ∷ []

-- the text of words
abbrev pub spaced : Words → List ℕ
spaced [] = []
spaced (v ∷ []) = v
spaced (v ∷ w ∷ ws) = v ++ (gap v w ++ spaced (w ∷ ws))

-- words after one that opens nothing: a space first, but none before a closing parenthesis
abbrev pub spaced_after : Words → List ℕ
spaced_after [] = []
spaced_after (w ∷ ws) = (if bytes_eq w (codes ")") then [] else 32 ∷ []) ++ spaced (w ∷ ws)

-- a line of words
unfoldable pub line : Words → List ℕ
line ws = spaced ws ++ 10 ∷ []

-- one line for each row of words
abbrev pub lines : List Words → List ℕ
lines rows = flat_map line rows

-- the text of a term whose variables have this letter
abbrev pub term_text : ℕ → Term → List ℕ
term_text letter t = spaced (term_words letter t)

-- a word that is a token of each text in which it stands apart, of bytes that a text may have
pub record IsToken (v : Word) : Type 0 where
  pub shape : IsParenthesis v ⊎ IsTokenWord v
  pub allowed : list_all is_allowed v ≡ true

-- each word is such a token
abbrev pub AreTokens : Words → Type 0
AreTokens ws = AllByRecursion IsToken ws

-- a text grew by a part of what was to be written
pub record GrewToward (old new text : List ℕ) : Type 0 where
  pub front : List ℕ
  pub rest : List ℕ
  pub held : new ≡ old ++ front
  pub begins : text ≡ front ++ rest

-- a function appended this text, or a part of it where it found no memory
abbrev pub Appends : {E : Type 0} → Result (Unit {0}) E → List ℕ → List ℕ → List ℕ → Type 0
Appends (Ok u) old new text = new ≡ old ++ text
Appends (Err e) old new text = GrewToward old new text
