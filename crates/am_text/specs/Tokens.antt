-- The tokens of a text.
use Rattle.std.specs.Prelude.{◌≡◌, ℕ, ◌+◌, ◌<◌, Bool, true, ◌||◌, ◌&&◌, not, if◌then◌else◌, List, [], ◌∷◌, ◌++◌, ◌==◌}
use Rattle.std.specs.Prelude.{nat_le, Option, Some, None, length, map, position, filter, All, ◌⊎◌}
use Rattle.std.specs.List.{prefix_len, suffix_len, list_all, concat}
use Rattle.std.specs.List.Sorted.{IsStrictlyIncreasing}
use Rattle.std.specs.Coded.{Coded, code_by, coded×, coded_ℕ, coded_list}
use Rattle.std.proofs.Common.{refl}

-- whether a byte is a space or a newline
abbrev pub is_space : ℕ → Bool
is_space b = b == 32 || b == 10

-- whether a byte opens or closes
abbrev pub is_parenthesis : ℕ → Bool
is_parenthesis b = b == 40 || b == 41

-- whether a byte is of a word: no space and no parenthesis
abbrev pub is_word_byte : ℕ → Bool
is_word_byte b = not (is_space b) && not (is_parenthesis b)

-- a byte that a text may have: printable ASCII, a space or a newline
abbrev pub is_allowed : ℕ → Bool
is_allowed b = b == 10 || (nat_le 32 b && nat_le b 126)

-- the place of the first byte that a text may not have
abbrev pub bad_byte : List ℕ → Option ℕ
bad_byte text = position (λ b. not (is_allowed b)) text

-- a token: the place of its first byte, and its bytes
pub record Placed : Type 0 where
  pub place : ℕ
  pub word : List ℕ

-- the token with this place and these bytes
abbrev pub placed : ℕ → List ℕ → Placed
placed place word = record { place = place; word = word }

-- a byte of a word at this place, before bytes whose tokens are given
abbrev pub word_byte_before : ℕ → ℕ → List ℕ → List Placed → List Placed
word_byte_before at b [] tokens = placed at (b ∷ []) ∷ tokens
word_byte_before at b (c ∷ cs) [] = placed at (b ∷ []) ∷ []
word_byte_before at b (c ∷ cs) (t ∷ tokens) =
    if is_word_byte c then placed at (b ∷ t.word) ∷ tokens else placed at (b ∷ []) ∷ t ∷ tokens

-- the tokens of bytes of which the first has this place
abbrev pub tokens_at : ℕ → List ℕ → List Placed
tokens_at at [] = []
tokens_at at (b ∷ bs) =
    if is_space b then tokens_at (at + 1) bs else
    if is_parenthesis b then placed at (b ∷ []) ∷ tokens_at (at + 1) bs else
    word_byte_before at b bs (tokens_at (at + 1) bs)

-- what is left to read: the tokens, and the place of the text's end
pub record Left : Type 0 where
  pub tokens : List Placed
  pub end : ℕ

-- the whole of a text
abbrev pub text_left : List ℕ → Left
text_left text = record { tokens = tokens_at 0 text; end = length text }

-- the bytes of the tokens left
abbrev pub words : Left → List (List ℕ)
words left = map (λ t. t.word) left.tokens

-- the words of a text
abbrev pub words_of : List ℕ → List (List ℕ)
words_of text = words (text_left text)

-- the first element, if there is one
abbrev pub first : {A : Type 0} → List A → Option A
first [] = None
first (x ∷ xs) = Some x

-- the elements after the first
abbrev pub rest : {A : Type 0} → List A → List A
rest [] = []
rest (x ∷ xs) = xs

-- the place of the next token, or of the end
abbrev pub place_or_end : List Placed → ℕ → ℕ
place_or_end [] end = end
place_or_end (t ∷ ts) end = t.place

-- the place of the next token left, or of the end
abbrev pub next_place : Left → ℕ
next_place left = place_or_end left.tokens left.end

-- one parenthesis
abbrev pub IsParenthesis : List ℕ → Type 0
IsParenthesis bs = (length bs ≡ 1) × (list_all is_parenthesis bs ≡ true)

-- a byte or more, all of a word
abbrev pub IsTokenWord : List ℕ → Type 0
IsTokenWord bs = (0 < length bs) × (list_all is_word_byte bs ≡ true)

-- no byte of a word ends the front or begins the back
abbrev pub IsCut : List ℕ → List ℕ → Type 0
IsCut front back = (suffix_len is_word_byte front ≡ 0) × (prefix_len is_word_byte back ≡ 0)

-- a token of a text, at its place: a parenthesis, or a longest row of bytes of a word
pub record IsTokenOf (text : List ℕ) (t : Placed) : Type 0 where
  pub front : List ℕ
  pub back : List ℕ
  pub slice : text ≡ front ++ t.word ++ back
  pub place : length front ≡ t.place
  pub whole : IsParenthesis t.word ⊎ IsTokenWord t.word × IsCut front back

-- these are the tokens of a text: in order, and each byte but spaces is in one of them
pub record AreTokensOf (text : List ℕ) (tokens : List Placed) : Type 0 where
  pub slices : All (IsTokenOf text) tokens
  pub order : IsStrictlyIncreasing (map (λ t. t.place) tokens)
  pub complete : concat (map (λ t. t.word) tokens) ≡ filter (λ b. not (is_space b)) text

-- how the check keeps a token
abbrev pub placed_code : Coded Placed
placed_code = code_by (ℕ × List ℕ)
    (coded× coded_ℕ (coded_list coded_ℕ))
    (λ t. (t.place, t.word))
    (λ p. record { place = p.0; word = p.1 })
    (λ _. refl)

-- how the check keeps what is left
abbrev pub left_code : Coded Left
left_code = code_by (List Placed × ℕ)
    (coded× (coded_list placed_code) coded_ℕ)
    (λ l. (l.tokens, l.end))
    (λ p. record { tokens = p.0; end = p.1 })
    (λ _. refl)
