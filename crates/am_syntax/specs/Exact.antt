-- What it means that a piece reads exactly the spellings of its good values.
use Rattle.std.specs.Prelude.{◌≡◌, false, List, [], ◌++◌, Ok, map}
use Rattle.am_text.specs.Tokens.{Left, Placed, words}
use Rattle.am_syntax.specs.Pieces.{Piece, next_is}
use Rattle.am_syntax.specs.Readers.{Advances, LooksNoFurther, Word, Words}

-- the words of tokens, without their places
abbrev pub words_in : List Placed → Words
words_in tokens = map (λ (t : Placed). t.word) tokens

-- tokens of these words were taken, and this is left
pub record Takes (s : Left) (text : Words) (left : Left) : Type 0 where
  pub front : List Placed
  pub split : s.tokens ≡ front ++ left.tokens
  pub spelled : words_in front ≡ text
  pub same_end : s.end ≡ left.end

-- what is read is spelled so and is good; what is good and spelled so is read, where what follows is allowed;
-- what is left after a value, or from a refused token on, was reached; and what follows that token makes no difference
pub record IsExact {X : Type 0} (p : Piece X) (May : Words → Type 0) : Type 0 where
  pub takes : (s : Left) (x : X) (t : Left) → p.read s ≡ Ok (x, t) → Takes s (p.spell x) t × p.Good x
  pub again : (s : Left) (x : X) (t : Left) → p.Good x → Takes s (p.spell x) t → May (words t) → p.read s ≡ Ok (x, t)
  pub advances : Advances p.read
  pub no_further : LooksNoFurther p.read

-- whatever follows
abbrev pub always : Words → Type 0
always ws = Unit {0}

-- nothing follows
abbrev pub nothing : Words → Type 0
nothing ws = ws ≡ []

-- what may follow a piece, and not the key word, which doesn't come where the piece is missing
abbrev pub WithoutKey : Word → (Words → Type 0) → Words → Type 0
WithoutKey word May ws = May ws × (next_is word ws ≡ false)
