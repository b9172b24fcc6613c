-- What stands on a printed line after its key word: words, numbers and terms.
use Rattle.std.specs.Prelude.{All, Bool, ◌||◌, not, List, [], ◌∷◌, bytes_eq, codes, decimal, flat_map, map, IsTrue}
use Rattle.std.specs.List.{AllByRecursion}
use Rattle.am_syntax.specs.declared.lines.Entry.{Entry}
use Rattle.am_syntax.specs.declared.lines.Entry.TheVariants.{Word as word, Number, Numbers, Bytes, Term, Terms}
use Rattle.am_syntax.specs.Readers.{Word, Words}
use Rattle.am_syntax.specs.Spelling.{FitsSomewhere, letter_code, term_words}

-- no parenthesis
abbrev pub is_apart : Word → Bool
is_apart v = not (bytes_eq v (codes "(") || bytes_eq v (codes ")"))

-- a word is no parenthesis, and a term fits somewhere
abbrev pub IsLineEntry : Entry → Type 0
IsLineEntry (word v) = IsTrue (is_apart v.now)
IsLineEntry (Number n) = Unit {0}
IsLineEntry (Numbers ns) = Unit {0}
IsLineEntry (Bytes bs) = Unit {0}
IsLineEntry (Term letter t) = FitsSomewhere t.now
IsLineEntry (Terms letter ts) = All FitsSomewhere ts.now

-- each of a line's entries may stand there
abbrev pub AreEntries : List Entry → Type 0
AreEntries entries = AllByRecursion IsLineEntry entries

-- the words of an entry
abbrev pub entry_words : Entry → Words
entry_words (word v) = v.now ∷ []
entry_words (Number n) = decimal n ∷ []
entry_words (Numbers ns) = map decimal ns.now
entry_words (Bytes bs) = map decimal bs.now
entry_words (Term letter t) = term_words (letter_code letter) t.now
entry_words (Terms letter ts) = flat_map (term_words (letter_code letter)) ts.now

-- the words of all entries, in order
abbrev pub words_of_entries : List Entry → Words
words_of_entries entries = flat_map entry_words entries
