-- Whole texts, and what is answered at a text's edge: a refusal with its place.
use Rattle.std.specs.Prelude.{◌≡◌, ℕ, suc, List, [], ◌∷◌, take, Option, Some, None, Result, Ok, Err, ◌⊎◌}
use Rattle.am_text.specs.Tokens.{Left, Placed, bad_byte, next_place, text_left, words_of}
use Rattle.am_syntax.specs.declared.refusal.Cause.{Cause}
use Rattle.am_syntax.specs.declared.refusal.Cause.TheVariants as cause
use Rattle.am_syntax.specs.declared.refusal.Failure.{Failure}
use Rattle.am_syntax.specs.declared.refusal.Failure.TheVariants as failure
use Rattle.am_syntax.specs.declared.refusal.Refusal.{Refusal}
use Rattle.am_syntax.specs.declared.refusal.Refusal.TheVariants.{BadByte, Syntax, Number, Name, Count, Twice}
use Rattle.am_syntax.specs.declared.refusal.ReadError.{ReadError}
use Rattle.am_syntax.specs.declared.refusal.ReadError.TheVariants.{Refused, NoMemory}
use Rattle.am_syntax.specs.Pieces.{Piece}
use Rattle.am_syntax.specs.Readers.{Read, Reader, StopsAt}

-- a cause with the place of the token that it refuses
abbrev pub refusal_at : Cause → ℕ → Refusal
refusal_at cause.Syntax place = Syntax place
refusal_at cause.Number place = Number place
refusal_at cause.Name place = Name place
refusal_at cause.Count place = Count place
refusal_at cause.Twice place = Twice place

-- ---- calls on a cursor

-- what was read, or a failure with the place where the cursor stands
abbrev pub placed : {X : Type 0} → Left → Result X Failure → Result X ReadError
placed left (Ok x) = Ok x
placed left (Err (failure.Refused cause)) = Err (Refused (refusal_at cause (next_place left)))
placed left (Err failure.NoMemory) = Err NoMemory

-- the refusal names the place where the cursor stands, which is that of the refused token
abbrev pub IsRefusedAt : {Y : Type 0} → Refusal → Left → Read Y → Type 0
IsRefusedAt r left read = (cause : Cause) × (read ≡ Err (cause, left)) × (r ≡ refusal_at cause (next_place left))

-- what a function returned, seen by view, and where the cursor stands then
abbrev pub GivesAt : {X Y : Type 0} → (X → Y) → Result X Refusal → Left → Left → Reader Y → Type 0
GivesAt view (Ok x) old new reader = reader old ≡ Ok (view x, new)
GivesAt view (Err r) old new reader = IsRefusedAt r new (reader old)

-- the same of a function that takes memory: without any, the cursor stays
abbrev pub MakesAt : {X Y : Type 0} → (X → Y) → Result X ReadError → Left → Left → Reader Y → Type 0
MakesAt view (Ok x) old new reader = reader old ≡ Ok (view x, new)
MakesAt view (Err (Refused r)) old new reader = IsRefusedAt r new (reader old)
MakesAt view (Err NoMemory) old new reader = new ≡ old

-- ---- whole texts

-- the text is this value's, and nothing else's
pub record IsTextOf {X : Type 0} (p : Piece X) (text : List ℕ) (x : X) : Type 0 where
  pub allowed : bad_byte text ≡ None
  pub spelled : words_of text ≡ p.spell x
  pub good : p.Good x

-- nothing stands after a text's value
abbrev pub ended : {X : Type 0} → X → List Placed → Result X Refusal
ended x [] = Ok x
ended x (t ∷ ts) = Err (Syntax t.place)

-- the value of a whole text, after which nothing stands, or the refusal with its place
abbrev pub whole : {X : Type 0} → Read X → Result X Refusal
whole (Ok x) = ended x.0 x.1.tokens
whole (Err stop) = Err (refusal_at stop.0 (next_place stop.1))

-- a text with a bad byte is refused there, and another one is read
abbrev pub opened : {X : Type 0} → Reader X → List ℕ → Option ℕ → Result X Refusal
opened reader text (Some place) = Err (BadByte place)
opened reader text None = whole (reader (text_left text))

-- what is read from a whole text, or the first refusal: of its bytes, then of its tokens
unfoldable pub read_whole : {X : Type 0} → Reader X → List ℕ → Result X Refusal
read_whole reader text = opened reader text (bad_byte text)

-- the value of a text, or its first refusal
abbrev pub text_value : {X : Type 0} → Piece X → List ℕ → Result X Refusal
text_value p text = read_whole p.read text

-- what was read, where nothing stands after it, or a failure with the place where the cursor stands
abbrev pub ended_so : {X : Type 0} → X → List Placed → Result X ReadError
ended_so x [] = Ok x
ended_so x (t ∷ ts) = Err (Refused (Syntax t.place))

-- the answer at the end of a text: a value is refused where something stands after it
abbrev pub answer_at_end : {X : Type 0} → Left → Result X Failure → Result X ReadError
answer_at_end left (Ok x) = ended_so x left.tokens
answer_at_end left (Err (failure.Refused cause)) = Err (Refused (refusal_at cause (next_place left)))
answer_at_end left (Err failure.NoMemory) = Err NoMemory

-- a text is one value's at most
abbrev pub HasOneValue : {X : Type 0} → Piece X → List ℕ → Type 0
HasOneValue {X = X} p text = (x y : X) → IsTextOf p text x → IsTextOf p text y → x ≡ y

-- a text is some value's and has no refusal, or it is none's and has one
abbrev pub IsSettledText : {X : Type 0} → Piece X → List ℕ → Type 0
IsSettledText {X = X} p text =
    ((x : X) × IsTextOf p text x × ((r : Refusal) → text_value p text ≡ Err r → ⊥)) ⊎
    ((r : Refusal) × (text_value p text ≡ Err r) × ((x : X) → IsTextOf p text x → ⊥))

-- a text of allowed bytes that is refused at a token, by its number, is refused for good: no text of this kind has the
-- same words up to that token, it included, whatever follows
abbrev pub RefusesForGood : {X : Type 0} → Reader X → (List ℕ → Type 0) → Type 0
RefusesForGood reader IsText =
    (text other : List ℕ) (r : Refusal) (at : ℕ) → bad_byte text ≡ None → read_whole reader text ≡ Err r →
    StopsAt reader (text_left text) (text_left other) at → IsText other → ⊥

-- what a function answered, seen by view: this, unless memory ran out
abbrev pub Answers : {X Y : Type 0} → (X → Y) → Result X ReadError → Result Y Refusal → Type 0
Answers view (Ok x) answer = answer ≡ Ok (view x)
Answers view (Err (Refused r)) answer = answer ≡ Err r
Answers view (Err NoMemory) answer = Unit {0}
