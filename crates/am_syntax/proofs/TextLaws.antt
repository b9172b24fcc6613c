-- A text has a value exactly where its piece spells it, and else a first refusal.
use Rattle.std.proofs.Common.{◌≡◌, ℕ, suc, ◌<◌, List, [], ◌∷◌, ◌++◌, drop, length, take, Option, Some, None, Result, Ok}
use Rattle.std.proofs.Common.{Err, ap, subst, sym, ◌∙◌, refl, inl, inr, arith}
use Rattle.std.proofs.lemmas.List.{append-nil, length-drop, length-map, length-take}
use Rattle.am_text.specs.Tokens.{Left, Placed, bad_byte, next_place, text_left, tokens_at, words_of}
use Rattle.am_syntax.specs.declared.refusal.Cause.{Cause}
use Rattle.am_syntax.specs.declared.refusal.Failure.{Failure}
use Rattle.am_syntax.specs.declared.refusal.Failure.TheVariants as failure
use Rattle.am_syntax.specs.declared.refusal.ReadError.TheVariants.{Refused}
use Rattle.am_syntax.specs.declared.refusal.Refusal.{Refusal}
use Rattle.am_syntax.specs.declared.refusal.Refusal.TheVariants.{BadByte, Syntax}
use Rattle.am_syntax.specs.Exact.{IsExact, Takes, words_in}
use Rattle.am_syntax.specs.Pieces.{Piece}
use Rattle.am_syntax.specs.Readers.{Makes, Read, Reader, Words, leaving, left_after, left_by, onward}
use Rattle.am_syntax.specs.Texts.{Answers, HasOneValue, IsSettledText, IsTextOf, RefusesForGood, answer_at_end, ended}
use Rattle.am_syntax.specs.Texts.{ended_so, opened, read_whole, refusal_at, text_value, whole}
use Rattle.am_syntax.proofs.Takes.{Takes-words}

module _ {X : Type 0} where
  opened_ok : (reader : Reader X) (text : List ℕ) (bad : Option ℕ) (x : X) → opened reader text bad ≡ Ok x →
      (bad ≡ None) × (whole (reader (text_left text)) ≡ Ok x)
  opened_ok reader text (Some place) x e = absurd cc
  opened_ok reader text None x e = (refl, e)

  ended_ok : (y x : X) (tokens : List Placed) → ◌≡◌ {A = Result X Refusal} (ended y tokens) (Ok x) →
      (y ≡ x) × (tokens ≡ [])
  ended_ok y x [] e = (cc, refl)
  ended_ok y x (t ∷ ts) e = absurd cc

  whole_ok : (r : Read X) (x : X) → whole r ≡ Ok x → (left : Left) × (r ≡ Ok (x, left)) × (left.tokens ≡ [])
  whole_ok (Ok y) x e =
      let h = ended_ok y.0 x y.1.tokens e in
      (y.1, ap (λ (z : X). Ok (z, y.1)) h.0, h.1)
  whole_ok (Err stop) x e = absurd cc

module _ {X : Type 0} {p : Piece X} {May : Words → Type 0} (law : IsExact p May) where
  -- what is read is what the text spells
  pub text_found : (text : List ℕ) (x : X) → text_value p text ≡ Ok x → IsTextOf p text x
  unfolding read_whole
  text_found text x e =
      let a = opened_ok p.read text (bad_byte text) x e in
      let w = whole_ok (p.read (text_left text)) x a.1 in
      let took = law.takes (text_left text) x w.0 w.1 in
      record {
        allowed = a.0;
        spelled =
            Takes-words (text_left text) (p.spell x) w.0 took.0
            ∙ ap (λ (ts : List Placed). p.spell x ++ words_in ts) w.2 ∙ append-nil (p.spell x);
        good = took.1;
      }

  module _ (ends : May []) where
    -- what the text spells is read
    pub text_read : (text : List ℕ) (x : X) → IsTextOf p text x → text_value p text ≡ Ok x
    unfolding read_whole
    text_read text x is =
        let end : Left = record { tokens = []; end = (text_left text).end } in
        let all : Takes (text_left text) (p.spell x) end =
        record {
          front = tokens_at 0 text;
          split = sym (append-nil (tokens_at 0 text));
          spelled = is.spelled;
          same_end = refl;
        } in
        ap (opened p.read text) is.allowed ∙ ap whole (law.again (text_left text) x end is.good all ends)

    -- a text is one value's at most
    pub text_once : (text : List ℕ) → HasOneValue p text
    text_once text x y one two =
        let e : ◌≡◌ {A = Result X Refusal} (Ok x) (Ok y) = sym (text_read text x one) ∙ text_read text y two in cc

    settled_by : (text : List ℕ) (answer : Result X Refusal) → text_value p text ≡ answer → IsSettledText p text
    settled_by text (Ok x) e =
        inl (x, text_found text x e, λ r h. let f : ◌≡◌ {A = Result X Refusal} (Ok x) (Err r) = sym e ∙ h in cc)
    settled_by text (Err r) e =
        inr (r, e, λ x is. let f : ◌≡◌ {A = Result X Refusal} (Err r) (Ok x) = sym e ∙ text_read text x is in cc)

    open_here : (text other : List ℕ) (r : Refusal) (at : ℕ) (x : X) (read : Read X) → whole read ≡ Err r →
        at < length (text_left text).tokens →
        take (suc at) (words_of other) ≡ take (suc at) (words_of text) →
        whole (leaving read (left_after at (text_left other))) ≡ Ok x → ⊥
    open_here text other r at x (Ok y) refused some same found =
        let none : drop at (text_left other).tokens ≡ [] =
        (ended_ok y.0 x (drop at (text_left other).tokens) found).1 in
        omega (
          arith,
          some,
          ap length none,
          length-drop at (text_left other).tokens,
          ap length same,
          length-take (suc at) (words_of other),
          length-take (suc at) (words_of text),
          length-map (text_left other).tokens (λ (t : Placed). t.word),
          length-map (text_left text).tokens (λ (t : Placed). t.word),
        )
    open_here text other r at x (Err stop) refused some same found = absurd cc

    -- a refused token is refused whatever follows it
    pub text_refused : RefusesForGood p.read (λ text. (x : X) × IsTextOf p text x)
    unfolding read_whole
    text_refused text other r at good refused stops (x, is) =
        open_here text other r at x (p.read (text_left text)) (sym (ap (opened p.read text) good) ∙ refused) stops.some
        stops.same
        (ap whole (sym (law.no_further (text_left text) (text_left other) at stops))
        ∙ (opened_ok p.read other (bad_byte other) x (text_read other x is)).1)

    -- each text is some value's or has a first refusal, and not both
    pub text_settled : (text : List ℕ) → IsSettledText p text
    text_settled text = settled_by text (text_value p text) refl

-- ---- two readers of one text

-- two readers come to an end of the same kind, and leave the same
abbrev pub EndAlike : {X Y : Type 0} → Read X → Read Y → Type 0
EndAlike (Ok p) (Ok q) = p.1 ≡ q.1
EndAlike (Err stop) (Err other) = stop ≡ other
EndAlike (Ok p) (Err other) = ⊥
EndAlike (Err stop) (Ok q) = ⊥

-- what they leave is the same
left_alike : {X Y : Type 0} (one : Read X) (two : Read Y) → EndAlike one two → left_by one ≡ left_by two
left_alike (Ok p) (Ok q) e = e
left_alike (Err stop) (Err other) e = ap (λ (s : Cause × Left). s.1) e
left_alike (Ok p) (Err other) e = absurd e
left_alike (Err stop) (Ok q) e = absurd e

ended_alike : {X Y : Type 0} (x : X) (y : Y) (ts us : List Placed) (r : Refusal) → ts ≡ us →
    ◌≡◌ {A = Result X Refusal} (ended x ts) (Err r) → ◌≡◌ {A = Result Y Refusal} (ended y us) (Err r)
ended_alike x y [] us r same e = absurd cc
ended_alike {X = X} {Y = Y} x y (t ∷ ts) us r same e =
    let place : Syntax t.place ≡ r = cc in
    subst (λ (vs : List Placed). ◌≡◌ {A = Result Y Refusal} (ended y vs) (Err r)) same (ap Err place)

whole_alike : {X Y : Type 0} (one : Read X) (two : Read Y) (r : Refusal) → EndAlike one two → whole one ≡ Err r →
    whole two ≡ Err r
whole_alike (Ok p) (Ok q) r e refused =
    ended_alike p.0 q.0 p.1.tokens q.1.tokens r (ap (λ (l : Left). l.tokens) e) refused
whole_alike {X = X} {Y = Y} (Err stop) (Err other) r e refused =
    let same : refusal_at stop.0 (next_place stop.1) ≡ r =
    (let f : ◌≡◌ {A = Result X Refusal} (Err (refusal_at stop.0 (next_place stop.1))) (Err r) = refused in cc) in
    ap Err (ap (λ (s : Cause × Left). refusal_at s.0 (next_place s.1)) (sym e) ∙ same)
whole_alike (Ok p) (Err other) r e refused = absurd e
whole_alike (Err stop) (Ok q) r e refused = absurd e

-- where one of them refuses for good, so does the other
pub refuses_alike : {X Y : Type 0} (one : Reader X) (two : Reader Y) (IsText : List ℕ → Type 0) →
    ((s : Left) → EndAlike (one s) (two s)) → RefusesForGood two IsText → RefusesForGood one IsText
unfolding read_whole
refuses_alike one two IsText alike law text other r at good refused stops is =
    let s = text_left text in
    law text other r at good
    (ap (opened two text) good ∙ whole_alike (one s) (two s) r (alike s) (sym (ap (opened one text) good) ∙ refused))
    (record {
      some = stops.some;
      stops = ap (λ (l : Left). l.tokens) (sym (left_alike (one s) (two s) (alike s))) ∙ stops.stops;
      same = stops.same;
    }) is

-- ---- what a function answers that reads a whole text

closed_ended : {A X : Type 0} (view : A → X) (value : A) (tokens : List Placed) →
    Answers view (ended_so value tokens) (ended (view value) tokens)
closed_ended view value [] = refl
closed_ended view value (t ∷ ts) = refl

closed_whole : {A X : Type 0} (view : A → X) (old left : Left) (read : Result A Failure) (reader : Reader X) →
    Makes view read old left reader → Answers view (answer_at_end left read) (whole (reader old))
closed_whole {X = X} view old left (Ok value) reader made =
    subst (λ (q : Read X). Answers view (answer_at_end left (Ok value)) (whole q)) (sym made)
    (closed_ended view value left.tokens)
closed_whole view old left (Err (failure.Refused cause)) reader made = ap whole (made cause refl)
closed_whole view old left (Err failure.NoMemory) reader made = tt

-- a text of allowed bytes, read to its end
pub text_closed : {A X : Type 0} (reader : Reader X) (view : A → X) (text : List ℕ) (left : Left)
    (read : Result A Failure) → bad_byte text ≡ None → Makes view read (text_left text) left reader →
    Answers view (answer_at_end left read) (read_whole reader text)
unfolding read_whole
text_closed reader view text left read good made =
    subst (λ (o : Option ℕ). Answers view (answer_at_end left read) (opened reader text o)) (sym good)
    (closed_whole view (text_left text) left read reader made)

-- a text with a byte that none may have
pub text_bad : {A X : Type 0} (reader : Reader X) (view : A → X) (text : List ℕ) (at : ℕ) → bad_byte text ≡ Some at →
    Answers view (Err (Refused (BadByte at))) (read_whole reader text)
unfolding read_whole
text_bad reader view text at bad = ap (opened reader text) bad
