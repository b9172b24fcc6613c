-- What a piece reads is spelled so, and what is spelled so is read, whatever follows that it allows.
use Rattle.std.proofs.Common.{◌≡◌, ℕ, Bool, true, false, cond, List, [], ◌∷◌, ◌++◌, Option, Some, None, Result, Ok, Err}
use Rattle.std.proofs.Common.{bytes_eq, refl, sym, ap, subst, ◌∙◌, inl, inr}
use Rattle.std.specs.Prelude.{◌⊎◌}
use Rattle.std.proofs.lemmas.Bool.{cases_Bool}
use Rattle.std.proofs.lemmas.Slice.Eq.{bytes_eq-Decides}
use Rattle.am_text.specs.Tokens.{Left, Placed, words}
use Rattle.am_syntax.specs.declared.refusal.Cause.{Cause}
use Rattle.am_syntax.specs.declared.refusal.Cause.TheVariants.{Syntax, Count}
use Rattle.am_syntax.specs.Readers.{◌>>=◌, LooksAtNext, LooksNoFurther, Reached, Read, Reader, Word, Words, done}
use Rattle.am_syntax.specs.Readers.{judged, judged_in}
use Rattle.am_syntax.specs.Readers.{left_by, onward, settled}
use Rattle.am_syntax.specs.Pieces.{◌▹◌, Piece, choice, closed_or, key_judge, key_or, keyed_or, keyed, next_is, one_more}
use Rattle.am_syntax.specs.Pieces.{optional, seen_as, syntax, token}
use Rattle.am_syntax.specs.Exact.{IsExact, Takes, WithoutKey, always, words_in}
use Rattle.am_syntax.proofs.Advancing.{bind_advances, bind_reached, if_reached, judged_advances, reached_here}
use Rattle.am_syntax.proofs.Advancing.{seen_advances}
use Rattle.am_syntax.proofs.Stopping.{bind_alike, choice_alike, done_alike, judged_alike, onward_read_alike, seen_alike}
use Rattle.am_syntax.proofs.Takes.{Takes-halves, Takes-none, Takes-nothing, Takes-then, Takes-words}

-- values that were read alike are the same, and leave the same
pub ok_is : {X : Type 0} (p q : X × Left) → ◌≡◌ {A = Read X} (Ok p) (Ok q) → p ≡ q
ok_is p q e = cc

-- the value of a step that wasn't refused
pub bind_ok : {X Y : Type 0} (r : Read X) (next : X → Reader Y) (y : Y × Left) → onward next r ≡ Ok y →
    (x : X × Left) × (r ≡ Ok x) × (next x.0 x.1 ≡ Ok y)
bind_ok (Ok x) next y e = (x, refl, e)
bind_ok (Err e) next y h = absurd cc

-- ---- one token

settled_takes : {X : Type 0} (t : Placed) (ts : List Placed) (end : ℕ) (verdict : Result X Cause) (x : X) (u : Left) →
    settled t ts end verdict ≡ Ok (x, u) →
    (verdict ≡ Ok x) × (u ≡ record { tokens = ts; end = end })
settled_takes {X = X} t ts end (Ok y) x u e =
    let left : Left = record { tokens = ts; end = end } in
    let same = ok_is (y, left) (x, u) e in
    (ap (λ (p : X × Left). Ok p.0) same, sym (ap (λ (p : X × Left). p.1) same))
settled_takes t ts end (Err cause) x u e = absurd cc

-- the word of which a judge said so
word_of_tokens : {X : Type 0} (judge : Word → Result X Cause) (ts : List Placed) (end : ℕ) (x : X) (u : Left) →
    judged_in judge ts end ≡ Ok (x, u) → (v : Word) × (judge v ≡ Ok x)
word_of_tokens judge [] end x u e = absurd cc
word_of_tokens judge (t ∷ ts) end x u e = (t.word, (settled_takes t ts end (judge t.word) x u e).0)

-- a value that a judge gave is that of some word
pub judged_word : {X : Type 0} (judge : Word → Result X Cause) (s : Left) (x : X) (u : Left) →
    judged judge s ≡ Ok (x, u) → (v : Word) × (judge v ≡ Ok x)
unfolding judged
judged_word judge s x u e = word_of_tokens judge s.tokens s.end x u e

single : (front : List Placed) (v : Word) → words_in front ≡ v ∷ [] → (t : Placed) × (t.word ≡ v) × (front ≡ t ∷ [])
single [] v e = absurd cc
single (t ∷ []) v e = (t, cc, refl)
single (t ∷ u ∷ ts) v e = absurd cc

module _ {X : Type 0} (judge : Word → Result X Cause) (word : X → Word) (Good : X → Type 0)
    (to : (v : Word) (x : X) → judge v ≡ Ok x → (v ≡ word x) × Good x)
    (back : (x : X) → Good x → judge (word x) ≡ Ok x) where
  one_takes : (ts : List Placed) (end : ℕ) (x : X) (u : Left) → judged_in judge ts end ≡ Ok (x, u) →
      Takes (record { tokens = ts; end = end }) (word x ∷ []) u × Good x
  one_takes [] end x u e = absurd cc
  one_takes (t ∷ ts) end x u e =
      let s = settled_takes t ts end (judge t.word) x u e in
      let is = to t.word x s.0 in (
        record {
          front = t ∷ [];
          split = ap (λ (l : Left). t ∷ l.tokens) (sym s.1);
          spelled = ap (λ (v : Word). v ∷ []) is.0;
          same_end = sym (ap (λ (l : Left). l.end) s.1);
        },
        is.1,
      )

  one_again : (ts : List Placed) (end : ℕ) (x : X) (u : Left) → Good x →
      Takes (record { tokens = ts; end = end }) (word x ∷ []) u → judged_in judge ts end ≡ Ok (x, u)
  one_again [] end x u good p = absurd (let e : [] ≡ word x ∷ words u = Takes-words _ _ u p in cc)
  one_again (t ∷ ts) end x u good p =
      let s = single p.front (word x) p.spelled in
      let split : t ∷ ts ≡ s.0 ∷ u.tokens = p.split ∙ ap (λ (us : List Placed). us ++ u.tokens) s.2 in
      let head : t ≡ s.0 = cc in
      let tail : ts ≡ u.tokens = cc in
      ap (λ (w : Word). settled t ts end (judge w)) (ap (λ (v : Placed). v.word) head ∙ s.1)
      ∙ ap (settled t ts end) (back x good)
      ∙ ap (λ (us : List Placed). Ok (x, record { tokens = us; end = end })) tail
      ∙ ap (λ (e : ℕ). Ok (x, record { tokens = u.tokens; end = e })) p.same_end

  -- a token is read exactly where a good value's word stands
  pub token_law : IsExact (token judge word Good) always
  unfolding judged
  token_law = record {
    takes = λ s x t e. one_takes s.tokens s.end x t e;
    again = λ s x t good p may. one_again s.tokens s.end x t good p;
    advances = judged_advances judge;
    no_further = judged_alike judge;
  }

-- words that are found to be equal are equal
pub same_bytes : (a b : Word) → bytes_eq a b ≡ true → a ≡ b
same_bytes a b h = (bytes_eq-Decides a b).0 h

-- a word is found to be equal to itself
pub bytes_eq-same : (a : Word) → bytes_eq a a ≡ true
bytes_eq-same a = (bytes_eq-Decides a a).1 refl

cond_ok : {X : Type 0} (b : Bool) (x : X) (cause : Cause) (y : X) → cond b (Ok x) (Err cause) ≡ Ok y →
    (b ≡ true) × (x ≡ y)
cond_ok true x cause y e = (refl, cc)
cond_ok false x cause y e = absurd cc

-- a key word
pub key_law : (cause : Word → Cause) (word : Word) → IsExact (key_or cause word) always
unfolding key_or
key_law cause word = token_law (key_judge cause word) (λ _. word) (λ _. Unit {0})
    (λ v x e. (same_bytes v word (cond_ok (bytes_eq v word) tt (cause v) x e).0, tt))
    (λ x good. ap (λ b. cond b (Ok tt) (Err (cause word))) (bytes_eq-same word))

-- a key word that was read was there
pub key_takes : (cause : Word → Cause) (word : Word) (s t : Left) → (key_or cause word).read s ≡ Ok (tt, t) →
    Takes s (word ∷ []) t
unfolding key_or
key_takes cause word s t e = ((key_law cause word).takes s tt t e).0

-- a key word that is there is read
pub key_again : (cause : Word → Cause) (word : Word) (s t : Left) → Takes s (word ∷ []) t →
    (key_or cause word).read s ≡ Ok (tt, t)
unfolding key_or
key_again cause word s t p = (key_law cause word).again s tt t tt p tt

-- ---- pieces of pieces

module _ {X Y : Type 0} {p : Piece X} {q : X → Piece Y} {May Then : Words → Type 0} (one : IsExact p May)
    (two : (x : X) → p.Good x → IsExact (q x) Then)
    (meets : (x : X) (y : Y) (rest : Words) → p.Good x → (q x).Good y → Then rest → May ((q x).spell y ++ rest)) where
  abbrev pair_after : X → Reader (X × Y)
  pair_after x = (q x).read >>= λ y. done (x, y)

  after_reached : (s : Left) (x : X) (t : Left) → p.read s ≡ Ok (x, t) → Reached t (left_by (pair_after x t))
  after_reached s x t e = seen_advances (q x).read (λ y. (x, y)) (two x (one.takes s x t e).1).advances t

  -- one piece after another is read exactly where both are spelled so
  pub then_law : IsExact (p ▹ q) Then
  then_law = record {
    takes = λ s z u e.
        let f = bind_ok (p.read s) (λ x. (q x).read >>= λ y. done (x, y)) (z, u) e in
        let g = bind_ok ((q f.0.0).read f.0.1) (λ y. done (f.0.0, y)) (z, u) f.2 in
        let a = one.takes s f.0.0 f.0.1 f.1 in
        let b = (two f.0.0 a.1).takes f.0.1 g.0.0 g.0.1 g.1 in
        let made : (X × Y) × Left = ((f.0.0, g.0.0), g.0.1) in
        subst (λ (r : (X × Y) × Left). Takes s ((p ▹ q).spell r.0) r.1 × (p ▹ q).Good r.0) (ok_is made (z, u) g.2)
        (Takes-then s (p.spell f.0.0) f.0.1 ((q f.0.0).spell g.0.0) g.0.1 a.0 b.0, (a.1, b.1));
    again = λ s z u good taken may.
        let h = Takes-halves s (p.spell z.0) ((q z.0).spell z.1) u taken in
        let after = (two z.0 good.0).again h.between z.1 u good.1 h.second may in
        let before =
        one.again s z.0 h.between good.0 h.first (subst May (sym (Takes-words h.between ((q z.0).spell z.1) u h.second))
        (meets z.0 z.1 (words u) good.0 good.1 may)) in
        ap (onward (λ x. (q x).read >>= λ y. done (x, y))) before ∙ ap (onward (λ y. done (z.0, y))) after;
    advances = λ s. bind_reached s p.read pair_after one.advances (λ x t e. after_reached s x t e);
    no_further = λ s u. onward_read_alike s u p.read pair_after pair_after (one.no_further s u) one.advances
        (λ x t e. after_reached s x t e) (λ x t v e _. let law = two x (one.takes s x t e).1 in
        seen_alike (q x).read (λ y. (x, y)) law.no_further law.advances t v);
  }

-- a piece after a key word
pub keyed_law : {X : Type 0} {p : Piece X} {May : Words → Type 0} (cause : Word → Cause) (word : Word) → IsExact p May →
    IsExact (keyed_or cause word p) May
keyed_law {p = p} cause word law = record {
  takes = λ s x u e.
      let f = bind_ok ((key_or cause word).read s) (λ _. p.read) (x, u) e in
      let b = law.takes f.0.1 x u f.2 in
      (Takes-then s (word ∷ []) f.0.1 (p.spell x) u (key_takes cause word s f.0.1 f.1) b.0, b.1);
  again = λ s x u good taken may.
      let h = Takes-halves s (word ∷ []) (p.spell x) u taken in
      ap (onward (λ _. p.read)) (key_again cause word s h.between h.first) ∙ law.again h.between x u good h.second may;
  advances = bind_advances (key_or cause word).read (λ _. p.read) (key_law cause word).advances (λ _. law.advances);
  no_further =
      let first = key_law cause word in
      bind_alike (key_or cause word).read (λ _. p.read) first.no_further first.advances (λ _. law.no_further)
      (λ _. law.advances);
}

-- a piece before a key word
pub closed_law : {X : Type 0} {p : Piece X} {May : Words → Type 0} (cause : Word → Cause) (word : Word) →
    IsExact p May → ((rest : Words) → May (word ∷ rest)) → IsExact (closed_or cause word p) always
closed_law {X = X} {p = p} {May = May} cause word law meets = record {
  takes = λ s x u e.
      let f = bind_ok (p.read s) (λ x. (key_or cause word).read >>= λ _. done x) (x, u) e in
      let g = bind_ok ((key_or cause word).read f.0.1) (λ _. done f.0.0) (x, u) f.2 in
      let a = law.takes s f.0.0 f.0.1 f.1 in
      let made : X × Left = (f.0.0, g.0.1) in
      subst (λ (r : X × Left). Takes s (p.spell r.0 ++ word ∷ []) r.1 × p.Good r.0) (ok_is made (x, u) g.2)
      (Takes-then s (p.spell f.0.0) f.0.1 (word ∷ []) g.0.1 a.0 (key_takes cause word f.0.1 g.0.1 g.1), a.1);
  again = λ s x u good taken may.
      let h = Takes-halves s (p.spell x) (word ∷ []) u taken in
      let before =
      law.again s x h.between good h.first (subst May (sym (Takes-words h.between (word ∷ []) u h.second))
      (meets (words u))) in
      ap (onward (λ x. (key_or cause word).read >>= λ _. done x)) before
      ∙ ap (onward (λ _. done x)) (key_again cause word h.between u h.second);
  advances =
      bind_advances p.read (λ x. (key_or cause word).read >>= λ _. done x) law.advances
      (λ x. seen_advances (key_or cause word).read (λ _. x) (key_law cause word).advances);
  no_further =
      let last = key_law cause word in
      bind_alike p.read (λ x. (key_or cause word).read >>= λ _. done x) law.no_further law.advances
      (λ x. seen_alike (key_or cause word).read (λ _. x) last.no_further last.advances)
      (λ x. seen_advances (key_or cause word).read (λ _. x) last.advances);
}

-- the same piece with another view of its good values
pub seen_good_law : {X Y : Type 0} {p : Piece X} {May : Words → Type 0} (to : X → Y) (from : Y → X) → IsExact p May →
    ((x : X) → p.Good x → from (to x) ≡ x) → ((y : Y) → p.Good (from y) → to (from y) ≡ y) →
    IsExact (seen_as to from p) May
seen_good_law {X = X} {Y = Y} {p = p} to from law there back = record {
  takes = λ s y u e.
      let f = bind_ok (p.read s) (λ x. done (to x)) (y, u) e in
      let a = law.takes s f.0.0 f.0.1 f.1 in
      let made : Y × Left = (to f.0.0, f.0.1) in
      subst (λ (r : Y × Left). Takes s (p.spell (from r.0)) r.1 × p.Good (from r.0)) (ok_is made (y, u) f.2)
      (subst (λ (x : X). Takes s (p.spell x) f.0.1 × p.Good x) (sym (there f.0.0 a.1)) a);
  again = λ s y u good taken may.
      ap (onward (λ x. done (to x))) (law.again s (from y) u good taken may) ∙ ap (λ (z : Y). Ok (z, u)) (back y good);
  advances = seen_advances p.read to law.advances;
  no_further = seen_alike p.read to law.no_further law.advances;
}

-- the same piece with another view of its values
pub seen_law : {X Y : Type 0} {p : Piece X} {May : Words → Type 0} (to : X → Y) (from : Y → X) → IsExact p May →
    ((x : X) → p.Good x → from (to x) ≡ x) → ((y : Y) → to (from y) ≡ y) → IsExact (seen_as to from p) May
seen_law to from law there back = seen_good_law to from law there (λ y _. back y)

-- ---- what comes next decides

-- no token passes where each is refused
none_passes : {X : Type 0} (cause : Cause) (s : Left) (x : X) (u : Left) → judged (λ _. Err cause) s ≡ Ok (x, u) → ⊥
none_passes {X = X} cause s x u e =
    let refused : ◌≡◌ {A = Result X Cause} (Err cause) (Ok x) = (judged_word (λ _. Err cause) s x u e).1 in cc

-- in the place of an X and of a Y the same token is refused for the same cause
module _ {X Y : Type 0} (cause : Cause) (stop : Cause × Left) where
  alike : (ts : List Placed) (end : ℕ) → ◌≡◌ {A = Read X} (judged_in (λ _. Err cause) ts end) (Err stop) →
      ◌≡◌ {A = Read Y} (judged_in (λ _. Err cause) ts end) (Err stop)
  alike [] end e = let same : (Syntax, record { tokens = []; end = end }) ≡ stop = cc in ap Err same
  alike (t ∷ ts) end e = let same : (cause, record { tokens = t ∷ ts; end = end }) ≡ stop = cc in ap Err same

  -- the refusals are the same
  pub refused_alike : (s : Left) → ◌≡◌ {A = Read X} (judged (λ _. Err cause) s) (Err stop) →
      ◌≡◌ {A = Read Y} (judged (λ _. Err cause) s) (Err stop)
  unfolding judged
  refused_alike s e = alike s.tokens s.end e

-- a piece of which one more may stand here, or else Count at its first token
pub one_more_law : {X : Type 0} {p : Piece X} {May : Words → Type 0} (may : Bool) → IsExact p May →
    IsExact (one_more may p) May
one_more_law true law = record {
  takes = λ s x u e. let a = law.takes s x u e in (a.0, (refl, a.1));
  again = λ s x u good taken may. law.again s x u good.1 taken may;
  advances = law.advances;
  no_further = law.no_further;
}
one_more_law false law = record {
  takes = λ s x u e. absurd (none_passes Count s x u e);
  again = λ s x u good taken may. absurd (let e : false ≡ true = good.0 in cc);
  advances = judged_advances (λ _. Err Count);
  no_further = judged_alike (λ _. Err Count);
}

-- an optional piece is read exactly where its words stand, or where its key word doesn't
pub optional_law : {X : Type 0} {p : Piece X} {May : Words → Type 0} (word : Word) → IsExact p May →
    IsExact (optional word p) (WithoutKey word May)
optional_law {X = X} {p = p} {May = May} word law =
    let some : Reader (Option X) = (keyed word p).read >>= λ x. done (Some x) in
    record {
      takes = λ s o u e. elim (cases_Bool (next_is word (words s))) [
        | inl comes ↦
            let f =
            bind_ok ((keyed word p).read s) (λ x. done (Some x)) (o, u)
            (ap (λ b. cond b (some s) (Ok (None, s))) (sym comes) ∙ e) in
            let made : Option X × Left = (Some f.0.0, f.0.1) in
            subst (λ (r : Option X × Left). Takes s ((optional word p).spell r.0) r.1 × (optional word p).Good r.0)
            (ok_is made (o, u) f.2)
            ((keyed_law syntax word law).takes s f.0.0 f.0.1 f.1)
        | inr other ↦
            let none : Option X × Left = (None, s) in
            subst (λ (r : Option X × Left). Takes s ((optional word p).spell r.0) r.1 × (optional word p).Good r.0)
            (ok_is none (o, u) (ap (λ b. cond b (some s) (Ok (None, s))) (sym other) ∙ e)) (Takes-none s, tt)
      ];
      again =
          λ s o u good taken may. elim o as (λ o. (optional word p).Good o → Takes s ((optional word p).spell o) u →
          (optional word p).read s ≡ Ok (o, u)) [
            | None ↦ λ g taken.
                let same = Takes-nothing s u taken in
                ap (λ b. cond b (some s) (Ok (None, s))) (ap (λ (l : Left). next_is word (words l)) same ∙ may.1)
                ∙ ap (λ (l : Left). Ok (None, l)) same
            | Some x ↦ λ g taken.
                let comes : next_is word (words s) ≡ true =
                ap (next_is word) (Takes-words s (word ∷ p.spell x) u taken) ∙ bytes_eq-same word in
                ap (λ b. cond b (some s) (Ok (None, s))) comes
                ∙ ap (onward (λ x. done (Some x))) ((keyed_law syntax word law).again s x u g taken may.0)
          ] good taken;
      advances =
          λ s. if_reached (next_is word (words s)) some (done None) s
          (seen_advances (keyed word p).read Some (keyed_law syntax word law).advances) reached_here;
      no_further =
          let keyed_is = keyed_law syntax word law in
          choice_alike (next_is word) (λ _ _ _. refl) some (done None)
          (seen_alike (keyed word p).read Some keyed_is.no_further keyed_is.advances) (done_alike None);
    }

module _ {X Y : Type 0} {p : Piece X} {q : Piece Y} {May : Words → Type 0} (test : Words → Bool) (one : IsExact p May)
    (two : IsExact q May)
    (passes : (x : X) (rest : Words) → p.Good x → test (p.spell x ++ rest) ≡ true)
    (fails : (y : Y) (rest : Words) → q.Good y → test (q.spell y ++ rest) ≡ false) where
  abbrev left_read : Reader (X ⊎ Y)
  left_read = p.read >>= λ x. done (inl x)

  abbrev right_read : Reader (X ⊎ Y)
  right_read = q.read >>= λ y. done (inr y)

  -- a choice is read exactly where the test picks the piece that is spelled, if it looks no further than where it stops
  pub choice_by_law : LooksNoFurther (choice test p q).read → IsExact (choice test p q) May
  choice_by_law no_further = record {
    takes = λ s z u e. elim (cases_Bool (test (words s))) [
      | inl pass ↦
          let f =
          bind_ok (p.read s) (λ x. done (inl x)) (z, u)
          (ap (λ b. cond b (left_read s) (right_read s)) (sym pass) ∙ e) in
          let made : (X ⊎ Y) × Left = (inl f.0.0, f.0.1) in
          subst (λ (r : (X ⊎ Y) × Left). Takes s ((choice test p q).spell r.0) r.1 × (choice test p q).Good r.0)
          (ok_is made (z, u) f.2) (one.takes s f.0.0 f.0.1 f.1)
      | inr fail ↦
          let f =
          bind_ok (q.read s) (λ y. done (inr y)) (z, u)
          (ap (λ b. cond b (left_read s) (right_read s)) (sym fail) ∙ e) in
          let made : (X ⊎ Y) × Left = (inr f.0.0, f.0.1) in
          subst (λ (r : (X ⊎ Y) × Left). Takes s ((choice test p q).spell r.0) r.1 × (choice test p q).Good r.0)
          (ok_is made (z, u) f.2) (two.takes s f.0.0 f.0.1 f.1)
    ];
    again =
        λ s z u good taken may. elim z as (λ z. (choice test p q).Good z → Takes s ((choice test p q).spell z) u →
        (choice test p q).read s ≡ Ok (z, u)) [
          | inl x ↦ λ g taken.
              ap (λ b. cond b (left_read s) (right_read s))
              (ap test (Takes-words s (p.spell x) u taken) ∙ passes x (words u) g)
              ∙ ap (onward (λ x. done (inl x))) (one.again s x u g taken may)
          | inr y ↦ λ g taken.
              ap (λ b. cond b (left_read s) (right_read s))
              (ap test (Takes-words s (q.spell y) u taken) ∙ fails y (words u) g)
              ∙ ap (onward (λ y. done (inr y))) (two.again s y u g taken may)
        ] good taken;
    advances =
        λ s. if_reached (test (words s)) left_read right_read s (seen_advances p.read inl one.advances)
        (seen_advances q.read inr two.advances);
    no_further = no_further;
  }

  -- a choice by the next token alone
  pub choice_law : LooksAtNext test → IsExact (choice test p q) May
  choice_law at_next =
      choice_by_law (choice_alike test at_next left_read right_read
      (seen_alike p.read inl one.no_further one.advances) (seen_alike q.read inr two.no_further two.advances))
