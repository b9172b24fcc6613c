-- What a call answers whose part was read.
use Rattle.std.proofs.Common.{◌≡◌, Bool, true, false, cond, List, [], map, Result, Ok, Err, ap, sym, ◌∙◌, refl, subst}
use Rattle.std.proofs.lemmas.List.{map-id}
use Rattle.am_text.specs.Tokens.{Left}
use Rattle.am_syntax.specs.Pieces.{Piece, one_more, syntax}
use Rattle.am_syntax.specs.Exact.{IsExact}
use Rattle.am_syntax.specs.Readers.{GivesRead, Makes, Reached, Reader, Words, judged}
use Rattle.am_syntax.specs.declared.refusal.Cause.{Cause}
use Rattle.am_syntax.specs.declared.refusal.Cause.TheVariants.{Count}
use Rattle.am_syntax.specs.declared.refusal.Failure.{Failure}
use Rattle.am_syntax.specs.declared.refusal.Failure.TheVariants.{Refused}
use Rattle.am_syntax.proofs.Laws.{key_law, makes_refused, ok_is, one_more_law, reached_ok, refused_alike}
use Rattle.am_cert.specs.inside.Shown.{room}

-- the same from another reader that reads alike
pub makes_alike : {X Y : Type 0} (view : X → Y) (r : Result X Failure) (old new : Left) (one two : Reader Y) →
    one old ≡ two old → Makes view r old new one → Makes view r old new two
makes_alike view (Ok x) old new one two alike made = sym alike ∙ made
makes_alike view (Err e) old new one two alike made = λ cause is. sym alike ∙ made cause is

-- what a call answers that is refused
pub gives_refused : {A Y : Type 0} (view : A → Y) (r : Result A Cause) (cause : Cause) (old left : Left)
    (reader : Reader Y) → r ≡ Err cause → reader old ≡ Err (cause, left) → GivesRead view r old left reader
gives_refused {A = A} view r cause old left reader is refused =
    subst (λ (q : Result A Cause). GivesRead view q old left reader) (sym is) refused

-- after a piece
pub reached_after : {X : Type 0} {p : Piece X} {May : Words → Type 0} (s t : Left) (x : X) → IsExact p May →
    p.read s ≡ Ok (x, t) → Reached s t
reached_after {p = p} s t x law read = reached_ok p.read s t x law.advances read

-- items that are seen as they are
pub makes_same : {X : Type 0} (r : Result (List X) Failure) (old new : Left) (reader : Reader (List X)) →
    Makes (map (λ (x : X). x)) r old new reader → Makes (λ xs. xs) r old new reader
makes_same (Ok xs) old new reader made = made ∙ ap (λ ys. Ok (ys, new)) (map-id xs)
makes_same (Err e) old new reader made = made

-- ---- where one more may stand

room_left : (may : Bool) (s t : Left) → room may s ≡ Ok (tt, t) → (may ≡ true) × (s ≡ t)
room_left true s t e = (refl, let same = ok_is (tt, s) (tt, t) e in ap (λ (p : Unit {0} × Left). p.1) same)
room_left false s t e =
    absurd (let good : false ≡ true = ((one_more_law false (key_law syntax [])).takes s tt t e).1.0 in cc)

-- what a call answers that reads where one more may stand
pub makes_room : {A X : Type 0} (view : A → X) (may : Bool) (p : Piece X) (old mid left : Left) (r : Result A Failure) →
    room may old ≡ Ok (tt, mid) → Makes view r mid left p.read → Makes view r old left (one_more may p).read
makes_room view may p old mid left r e made =
    let is = room_left may old mid e in
    makes_alike view r old left p.read (one_more may p).read
    (ap (λ b. cond b (p.read old) (judged (λ _. Err Count) old)) (sym is.0))
    (subst (λ (s : Left). Makes view r s left p.read) (sym is.1) made)

no_room : {X : Type 0} (may : Bool) (p : Piece X) (s : Left) (stop : Cause × Left) → room may s ≡ Err stop →
    (one_more may p).read s ≡ Err stop
no_room true p s stop e = absurd cc
no_room false p s stop e = refused_alike Count stop s e

-- what a call answers that is refused where no more may stand
pub makes_no_room : {A X : Type 0} (view : A → X) (may : Bool) (p : Piece X) (old left : Left) (r : Result A Failure)
    (cause : Cause) →
    r ≡ Err (Refused cause) → room may old ≡ Err (cause, left) → Makes view r old left (one_more may p).read
makes_no_room view may p old left r cause is e =
    makes_refused view old left (one_more may p).read cause r is (no_room may p old (cause, left) e)
