-- In which order the text of a problem is refused, told by what stands in it.
use Rattle.std.specs.Prelude.{◌≡◌, ℕ, ◌<◌, ◌≤◌, false, true, List, [], ◌∷◌, ◌++◌, length, codes, Err, None, IsTrue}
use Rattle.std.specs.List.{AllByRecursion}
use Rattle.am_text.specs.Tokens.{Placed, bad_byte, tokens_at, words_of}
use Rattle.am_syntax.specs.Exact.{words_in}
use Rattle.am_syntax.specs.Numerals.{is_name}
use Rattle.am_syntax.specs.Readers.{Word}
use Rattle.am_syntax.specs.declared.refusal.Refusal.TheVariants.{Count, Load, Slots, Twice, Undefined}
use Rattle.am_problem.specs.Grammar.{has_name, names_of}
use Rattle.am_problem.specs.Limits.{IsFormed, slots_of}
use Rattle.am_problem.specs.LineLimits.{IsLines}
use Rattle.am_problem.specs.Lines.{Lines}
use Rattle.am_problem.specs.Loads.{load_of}
use Rattle.am_problem.specs.Printing.{begun_rows, joined_rows_of, problem_rows}
use Rattle.am_problem.specs.Texts.{is_undefined, numbered, problem_of}

-- ---- a rule begins

-- a text begins with these lines, up to their rules, and then with a rule of the name in this token
pub record BeginsRule (text : List ℕ) (l : Lines) (token : Placed) : Type 0 where
  pub allowed : bad_byte text ≡ None
  pub limits : IsLines l
  pub before : List Placed
  pub after : List Placed
  pub tokens : tokens_at 0 text ≡ before ++ token ∷ after
  pub words : words_in before ≡ joined_rows_of (begun_rows l) ++ codes "rule" ∷ []
  pub name : IsTrue (is_name token.word)

-- ---- all tokens are those of lines

-- a text has the words of these lines, which are within their limits, and no others
pub record IsOfLines (text : List ℕ) (l : Lines) : Type 0 where
  pub allowed : bad_byte text ≡ None
  pub words : words_of text ≡ joined_rows_of (problem_rows l)
  pub limits : IsLines l

-- the first token that is a name without a rule has this place
pub record IsFirstUndefined (names : List Word) (tokens : List Placed) (place : ℕ) : Type 0 where
  pub before : List Placed
  pub token : Placed
  pub after : List Placed
  pub split : tokens ≡ before ++ token ∷ after
  pub there : token.place ≡ place
  pub undefined : is_undefined names token.word ≡ true
  pub defined : AllByRecursion (λ (t : Placed). is_undefined names t.word ≡ false) before

-- all tokens are right, and a name has no rule
pub record IsUndefinedAt (text : List ℕ) (place : ℕ) : Type 0 where
  pub lines : Lines
  pub text_is : IsOfLines text lines
  pub first : IsFirstUndefined (names_of lines.rules) (tokens_at 0 text) place

-- all tokens are right, each name has a rule, and the slots are too many
pub record HasSlots (text : List ℕ) (slots : ℕ) : Type 0 where
  pub lines : Lines
  pub text_is : IsOfLines text lines
  pub formed : IsFormed (numbered lines)
  pub slots_are : slots ≡ slots_of (numbered lines)
  pub many : 256 < slots

-- all tokens are right, each name has a rule, the slots aren't too many, and the load is too great
pub record HasLoad (text : List ℕ) (load : ℕ) : Type 0 where
  pub lines : Lines
  pub text_is : IsOfLines text lines
  pub formed : IsFormed (numbered lines)
  pub few_slots : slots_of (numbered lines) ≤ 256
  pub load_is : load ≡ load_of (numbered lines)
  pub great : 16777216 < load

-- A name is counted before it is compared with those before it. All tokens come before names without rules, these
-- before the slots, and the slots before the load.
pub record AreInOrder (text : List ℕ) : Type 0 where
  -- the name of a seventeenth rule is one too many, whether it is used already or not
  pub counted : (l : Lines) (token : Placed) → BeginsRule text l token → length l.rules ≡ 16 →
      problem_of text ≡ Err (Count token.place)
  -- the name of an earlier rule is used twice
  pub twice : (l : Lines) (token : Placed) → BeginsRule text l token → length l.rules < 16 →
      has_name (names_of l.rules) token.word ≡ true → problem_of text ≡ Err (Twice token.place)
  pub undefined : (place : ℕ) → problem_of text ≡ Err (Undefined place) → IsUndefinedAt text place
  pub slots : (n : ℕ) → problem_of text ≡ Err (Slots n) → HasSlots text n
  pub load : (n : ℕ) → problem_of text ≡ Err (Load n) → HasLoad text n
