-- Items one after the other.
use Rattle.std.proofs.Common.{◌≡◌, ℕ, zero, suc, ◌+◌, ◌<◌, Bool, true, false, List, [], ◌∷◌, ◌++◌, length, Ok, sym, ap}
use Rattle.std.proofs.Common.{subst, ◌∙◌, append_assoc, arith, inl, inr, length-append}
use Rattle.std.proofs.lemmas.Bool.{cases_Bool}
use Rattle.std.proofs.lemmas.List.{append-nil}
use Rattle.am_text.specs.Tokens.{Left, words}
use Rattle.am_syntax.specs.Readers.{LooksAtNext, Reader, Words, onward}
use Rattle.am_syntax.specs.Pieces.{Piece, good_from, repeat, repeat_from, repeat_in, spelled_from, times, times_from}
use Rattle.am_syntax.proofs.Advancing.{repeat_advances, times_advances}
use Rattle.am_syntax.proofs.Stopping.{repeat_alike, times_alike}
use Rattle.am_syntax.proofs.Takes.{Takes-halves, Takes-length, Takes-none, Takes-nothing, Takes-then, Takes-words}
use Rattle.am_syntax.proofs.Repeats.{in_goes, in_stops, opened, repeat_more, repeat_stops}
use Rattle.am_syntax.specs.Exact.{IsExact, Takes}
use Rattle.am_syntax.proofs.PieceLaws.{bind_ok, ok_is}

-- a list that begins with those seen
snoc : {X : Type 0} (seen : List X) (x : X) (xs : List X) → (seen ++ x ∷ []) ++ xs ≡ seen ++ x ∷ xs
snoc seen x xs = append_assoc seen (x ∷ []) xs

-- items after those seen, and what is left
pub record Found {X : Type 0} (item : List X → Piece X) (seen : List X) (s : Left) (all : List X)
    (t : Left) : Type 0 where
  pub items : List X
  pub whole : seen ++ items ≡ all
  pub taken : Takes s (spelled_from item seen items) t
  pub good : good_from item seen items

found_none : {X : Type 0} (item : List X → Piece X) (seen : List X) (s : Left) → Found item seen s seen s
found_none item seen s = record { items = []; whole = append-nil seen; taken = Takes-none s; good = tt }

found_one : {X : Type 0} (item : List X → Piece X) (seen : List X) (s : Left) (x : X) (t : Left) (all : List X)
    (u : Left) →
    Takes s ((item seen).spell x) t → (item seen).Good x → Found item (seen ++ x ∷ []) t all u → Found item seen s all u
found_one item seen s x t all u taken good f = record {
  items = x ∷ f.items;
  whole = sym (snoc seen x f.items) ∙ f.whole;
  taken = Takes-then s ((item seen).spell x) t (spelled_from item (seen ++ x ∷ []) f.items) u taken f.taken;
  good = (good, f.good);
}

module _ {X : Type 0} {item : List X → Piece X} {May : Words → Type 0}
    (law : (seen : List X) → IsExact (item seen) May) where
  abbrev read : List X → Reader X
  read seen = (item seen).read

  -- what may follow an item may be further items
  may_before : ((seen : List X) (x : X) (rest : Words) → (item seen).Good x → May ((item seen).spell x ++ rest)) →
      (seen xs : List X) (rest : Words) → good_from item seen xs → May rest → May (spelled_from item seen xs ++ rest)
  may_before next seen [] rest good may = may
  may_before next seen (x ∷ xs) rest good may =
      subst May (sym (append_assoc ((item seen).spell x) (spelled_from item (seen ++ x ∷ []) xs) rest))
      (next seen x (spelled_from item (seen ++ x ∷ []) xs ++ rest) good.0)

  -- ---- n items

  times_found : (n : ℕ) (seen : List X) (s : Left) (all : List X) (u : Left) → times_from read n seen s ≡ Ok (all, u) →
      Found item seen s all u × (length all ≡ length seen + n)
  unfolding times_from
  times_found zero seen s all u e =
      let none : List X × Left = (seen, s) in
      subst (λ (r : List X × Left). Found item seen s r.0 r.1 × (length r.0 ≡ length seen + 0)) (ok_is none (all, u) e)
      (found_none item seen s, omega arith)
  times_found (suc n) seen s all u e =
      let f = bind_ok (read seen s) (λ x. times_from read n (seen ++ x ∷ [])) (all, u) e in
      let a = (law seen).takes s f.0.0 f.0.1 f.1 in
      let others = times_found n (seen ++ f.0.0 ∷ []) f.0.1 all u f.2 in (
        found_one item seen s f.0.0 f.0.1 all u a.0 a.1 others.0,
        omega
            (arith, others.1, length-append seen (f.0.0 ∷ [])),
      )

  times_again : ((seen : List X) (x : X) (rest : Words) → (item seen).Good x → May ((item seen).spell x ++ rest)) →
      (xs seen : List X) (s u : Left) → good_from item seen xs → Takes s (spelled_from item seen xs) u → May (words u) →
      times_from read (length xs) seen s ≡ Ok (seen ++ xs, u)
  unfolding times_from
  times_again next [] seen s u good taken may =
      ap (λ (xs : List X). Ok (xs, s)) (sym (append-nil seen))
      ∙ ap (λ (l : Left). Ok (seen ++ [], l)) (Takes-nothing s u taken)
  times_again next (x ∷ xs) seen s u good taken may =
      let others = spelled_from item (seen ++ x ∷ []) xs in
      let h = Takes-halves s ((item seen).spell x) others u taken in
      let stop : May (words h.between) =
      subst May (sym (Takes-words h.between others u h.second))
      (may_before next (seen ++ x ∷ []) xs (words u) good.1 may) in
      ap (onward (λ x. times_from read (length xs) (seen ++ x ∷ [])))
      ((law seen).again s x h.between good.0 h.first stop)
      ∙ times_again next xs (seen ++ x ∷ []) h.between u good.1 h.second may
      ∙ ap (λ (ys : List X). Ok (ys, u)) (snoc seen x xs)

  -- n items are read exactly where n good ones are spelled
  pub times_law : ((seen : List X) (x : X) (rest : Words) → (item seen).Good x → May ((item seen).spell x ++ rest)) →
      (n : ℕ) → IsExact (times item n) May
  times_law next n = record {
    takes = λ s xs u e.
        let f = times_found n [] s xs u e in
        subst (λ (ys : List X). Takes s (spelled_from item [] ys) u × ((length ys ≡ n) × good_from item [] ys))
        f.0.whole
        (f.0.taken, (omega (arith, f.1, ap length f.0.whole), f.0.good));
    again =
        λ s xs u good taken may. ap (λ n. times_from read n [] s) (sym good.0)
        ∙ times_again next xs [] s u good.1 taken may;
    advances = times_advances read (λ seen. (law seen).advances) n [];
    no_further = times_alike read (λ seen. (law seen).no_further) (λ seen. (law seen).advances) n [];
  }

  -- ---- items as long as some begin

  -- an item takes a token at least
  abbrev Moves : Type 0
  Moves = (seen : List X) (x : X) → (item seen).Good x → 0 < length ((item seen).spell x)

  -- each item that is read takes a token at least
  pub moves_on : Moves → (seen : List X) (s : Left) (x : X) (t : Left) → read seen s ≡ Ok (x, t) →
      length t.tokens < length s.tokens
  moves_on moves seen s x t e =
      let a = (law seen).takes s x t e in
      omega (arith, moves seen x a.1, Takes-length s ((item seen).spell x) t a.0)

  module _ (goes : Words → Bool) (moves : Moves) where
    -- ---- both directions

    repeat_found : (n : ℕ) (seen : List X) (s : Left) (all : List X) (u : Left) → length s.tokens < n →
        repeat_in goes read n seen s ≡ Ok (all, u) → Found item seen s all u
    repeat_found zero seen s all u h e = absurd (omega arith)
    repeat_found (suc n) seen s all u h e =
        elim (cases_Bool (goes (words s))) [
          | inl more ↦
              let f =
              bind_ok (read seen s) (λ x. repeat_in goes read n (seen ++ x ∷ [])) (all, u)
              (sym (in_goes goes read (moves_on moves) n seen s more) ∙ e) in
              let a = (law seen).takes s f.0.0 f.0.1 f.1 in
              let less = moves_on moves seen s f.0.0 f.0.1 f.1 in
              found_one item seen s f.0.0 f.0.1 all u a.0 a.1
              (repeat_found n (seen ++ f.0.0 ∷ []) f.0.1 all u (omega arith) f.2)
          | inr stops ↦
              let none : List X × Left = (seen, s) in
              subst (λ (r : List X × Left). Found item seen s r.0 r.1)
              (ok_is none (all, u) (sym (in_stops goes read (moves_on moves) (suc n) seen s stops) ∙ e))
              (found_none item seen s)
        ]

    module _ (at_next : LooksAtNext goes) {End : Words → Type 0}
        (ends : (rest : Words) → End rest → (goes rest ≡ false) × May rest)
        (begins : (seen : List X) (x : X) (rest : Words) →
        (item seen).Good x → goes ((item seen).spell x ++ rest) ≡ true)
        (next : (seen : List X) (x : X) (rest : Words) → (item seen).Good x → May ((item seen).spell x ++ rest)) where
      repeat_again : (xs seen : List X) (s u : Left) → good_from item seen xs → Takes s (spelled_from item seen xs) u →
          End (words u) → repeat_from goes read seen s ≡ Ok (seen ++ xs, u)
      repeat_again [] seen s u good taken end =
          let same = Takes-nothing s u taken in
          repeat_stops goes read (moves_on moves) seen s
          (ap (λ (l : Left). goes (words l)) same ∙ (ends (words u) end).0)
          ∙ ap (λ (xs : List X). Ok (xs, s)) (sym (append-nil seen)) ∙ ap (λ (l : Left). Ok (seen ++ [], l)) same
      repeat_again (x ∷ xs) seen s u good taken end =
          let others = spelled_from item (seen ++ x ∷ []) xs in
          let h = Takes-halves s ((item seen).spell x) others u taken in
          let stop : May (words h.between) =
          subst May (sym (Takes-words h.between others u h.second))
          (may_before next (seen ++ x ∷ []) xs (words u) good.1 (ends (words u) end).1) in
          let more : goes (words s) ≡ true =
          ap goes (Takes-words s ((item seen).spell x) h.between h.first) ∙ begins seen x (words h.between) good.0 in
          repeat_more goes read (moves_on moves) seen s x h.between more
          ((law seen).again s x h.between good.0 h.first stop)
          ∙ repeat_again xs (seen ++ x ∷ []) h.between u good.1 h.second end
          ∙ ap (λ (ys : List X). Ok (ys, u)) (snoc seen x xs)

      -- a list is read exactly where good items are spelled, up to where the test fails
      pub repeat_law : IsExact (repeat goes item) End
      repeat_law = record {
        takes = λ s xs u e.
            let f =
            repeat_found (suc (length s.tokens)) [] s xs u (omega arith)
            (opened goes read (moves_on moves) s (Ok (xs, u)) e) in
            subst (λ (ys : List X). Takes s (spelled_from item [] ys) u × good_from item [] ys) f.whole
            (f.taken, f.good);
        again = λ s xs u good taken end. repeat_again xs [] s u good taken end;
        advances = repeat_advances read (λ seen. (law seen).advances) goes [];
        no_further =
            repeat_alike read (λ seen. (law seen).no_further) (λ seen. (law seen).advances) goes at_next
            (moves_on moves) [];
      }
