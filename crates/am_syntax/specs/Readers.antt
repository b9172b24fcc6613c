-- Reading from left to right: a value and what is left, or why the first token of what is left is refused.
use Rattle.std.specs.Prelude.{◌≡◌, ℕ, suc, ◌<◌, Bool, List, [], ◌∷◌, drop, length, take, Result, Ok, Err}
use Rattle.am_text.specs.Tokens.{Left, Placed, words}
use Rattle.am_syntax.specs.declared.refusal.Cause.{Cause}
use Rattle.am_syntax.specs.declared.refusal.Cause.TheVariants.{Syntax}
use Rattle.am_syntax.specs.declared.refusal.Failure.{Failure}
use Rattle.am_syntax.specs.declared.refusal.Failure.TheVariants.{Refused, NoMemory}

-- the bytes of a token
abbrev pub Word : Type 0
Word = List ℕ

-- tokens without their places
abbrev pub Words : Type 0
Words = List (List ℕ)

-- a value and what is left, or a cause and what is left from the refused token on
abbrev pub Read : Type 0 → Type 0
Read X = Result (X × Left) (Cause × Left)

-- from what is left, a value or a refusal
abbrev pub Reader : Type 0 → Type 0
Reader X = Left → Read X

-- a value, without taking a token
abbrev pub done : {X : Type 0} → X → Reader X
done x s = Ok (x, s)

-- what was read goes on to the next reader, and a refusal stays
abbrev pub onward : {X Y : Type 0} → (X → Reader Y) → Read X → Read Y
onward next (Ok p) = next p.0 p.1
onward next (Err e) = Err e

-- one reader after another
infixl 10 ◌>>=◌
abbrev pub ◌>>=◌ : {X Y : Type 0} → Reader X → (X → Reader Y) → Reader Y
(r >>= next) s = onward next (r s)

-- what a judge says of the first token, which is taken where it is right
abbrev pub settled : {X : Type 0} → Placed → List Placed → ℕ → Result X Cause → Read X
settled t ts end (Ok x) = Ok (x, record { tokens = ts; end = end })
settled t ts end (Err cause) = Err (cause, record { tokens = t ∷ ts; end = end })

-- a judge's verdict on the first of these tokens; where there is none, the syntax wants one
abbrev pub judged_in : {X : Type 0} → (Word → Result X Cause) → List Placed → ℕ → Read X
judged_in judge [] end = Err (Syntax, record { tokens = []; end = end })
judged_in judge (t ∷ ts) end = settled t ts end (judge t.word)

-- the next token by a judge; the end of the text is no token. Each refusal is made here
unfoldable pub judged : {X : Type 0} → (Word → Result X Cause) → Reader X
judged judge s = judged_in judge s.tokens s.end

-- ---- where a reader stops

-- so many tokens were taken, and the others are left
pub record Reached (old new : Left) : Type 0 where
  pub taken : ℕ
  pub rest : new.tokens ≡ drop taken old.tokens
  pub same_end : new.end ≡ old.end

-- what is left after a value or a refusal
abbrev pub left_by : {X : Type 0} → Read X → Left
left_by (Ok p) = p.1
left_by (Err stop) = stop.1

-- a reader goes forward alone: whether it reads or refuses, what is left was reached from what was left
abbrev pub Advances : {X : Type 0} → Reader X → Type 0
Advances reader = (s : Left) → Reached s (left_by (reader s))

-- ---- what comes after the token where a reader stops

-- what is left once so many more tokens are taken
abbrev pub left_after : ℕ → Left → Left
left_after count s = record { tokens = drop count s.tokens; end = s.end }

-- the same value, or the same cause, with this left
abbrev pub leaving : {X : Type 0} → Read X → Left → Read X
leaving (Ok p) left = Ok (p.0, left)
leaving (Err stop) left = Err (stop.0, left)

-- the first reader stops at this token here, and there are the same words up to it, it included
pub record StopsAt {X : Type 0} (reader : Reader X) (s u : Left) (at : ℕ) : Type 0 where
  pub some : at < length s.tokens
  pub stops : (left_by (reader s)).tokens ≡ drop at s.tokens
  pub same : take (suc at) (words u) ≡ take (suc at) (words s)

-- two readers come to the same, one here and one there, whatever there follows the token where the first one stops
abbrev pub ReadAlike : {X : Type 0} → Reader X → Reader X → Left → Left → Type 0
ReadAlike one two s u = (at : ℕ) → StopsAt one s u at → two u ≡ leaving (one s) (left_after at u)

-- a reader looks no further than the token where it stops
abbrev pub LooksNoFurther : {X : Type 0} → Reader X → Type 0
LooksNoFurther reader = (s u : Left) → ReadAlike reader reader s u

-- a test of what is left looks at the next token alone
abbrev pub LooksAtNext : (Words → Bool) → Type 0
LooksAtNext test = (v : Word) (vs ws : Words) → test (v ∷ vs) ≡ test (v ∷ ws)

-- ---- what functions return

-- what a function returned, seen by view, and what it left: just what a reader reads
abbrev pub GivesRead : {X Y : Type 0} → (X → Y) → Result X Cause → Left → Left → Reader Y → Type 0
GivesRead view (Ok x) old new reader = reader old ≡ Ok (view x, new)
GivesRead view (Err cause) old new reader = reader old ≡ Err (cause, new)

-- the same of a function that takes memory; where it found none, nothing is said of the reader
abbrev pub Makes : {X Y : Type 0} → (X → Y) → Result X Failure → Left → Left → Reader Y → Type 0
Makes view (Ok x) old new reader = reader old ≡ Ok (view x, new)
Makes view (Err e) old new reader = (cause : Cause) → e ≡ Refused cause → reader old ≡ Err (cause, new)

-- where a cursor stands after a call that read ahead of it: where reading stopped, or still in its place where memory
-- was wanting
abbrev pub follows : {X : Type 0} → Left → Left → Result X Failure → Left
follows old ahead (Ok x) = ahead
follows old ahead (Err (Refused cause)) = ahead
follows old ahead (Err NoMemory) = old

-- a judge's function
abbrev pub Says : {X Y : Type 0} → (X → Y) → Result X Cause → Result Y Cause → Type 0
Says view (Ok x) verdict = verdict ≡ Ok (view x)
Says view (Err cause) verdict = verdict ≡ Err cause
