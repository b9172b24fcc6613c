-- What a loop does that reads items as long as one comes.
use Rattle.std.proofs.Common.{◌≡◌, ℕ, zero, suc, ◌<◌, Bool, true, false, cond, List, [], ◌∷◌, ◌++◌, length, Ok, Err}
use Rattle.std.proofs.Common.{refl, sym, ap, ◌∙◌, arith, inl, inr}
use Rattle.std.proofs.lemmas.Bool.{cases_Bool}
use Rattle.am_text.specs.Tokens.{Left, words}
use Rattle.am_syntax.specs.declared.refusal.Cause.{Cause}
use Rattle.am_syntax.specs.Readers.{◌>>=◌, Read, Reader, Words, onward}
use Rattle.am_syntax.specs.Pieces.{MovesOn, repeat_from, repeat_in}

module _ {X : Type 0} (goes : Words → Bool) (read : List X → Reader X) (moves : MovesOn read) where
  abbrev step : ℕ → List X → Reader (List X)
  step n seen = read seen >>= λ x. repeat_in goes read n (seen ++ x ∷ [])

  -- where the test fails, the list ends
  pub in_stops : (n : ℕ) (seen : List X) (s : Left) → goes (words s) ≡ false →
      repeat_in goes read n seen s ≡ Ok (seen, s)
  unfolding repeat_in
  in_stops zero seen s h = refl
  in_stops (suc n) seen s h = ap (λ b. cond b (step n seen s) (Ok (seen, s))) h

  -- where the test holds, one more item is read
  pub in_goes : (n : ℕ) (seen : List X) (s : Left) → goes (words s) ≡ true →
      repeat_in goes read (suc n) seen s ≡ step n seen s
  unfolding repeat_in
  in_goes n seen s h = ap (λ b. cond b (step n seen s) (Ok (seen, s))) h

  same_after : (m n : ℕ) → ((seen : List X) (t : Left) → length t.tokens < m → length t.tokens < n →
      repeat_in goes read m seen t ≡ repeat_in goes read n seen t) →
      (seen : List X) (s : Left) → length s.tokens < suc m → length s.tokens < suc n → (r : Read X) → read seen s ≡ r →
      onward (λ x. repeat_in goes read m (seen ++ x ∷ [])) r ≡ onward (λ x. repeat_in goes read n (seen ++ x ∷ [])) r
  same_after m n later seen s h k (Ok p) e =
      let less = moves seen s p.0 p.1 e in
      later (seen ++ p.0 ∷ []) p.1 (omega arith) (omega arith)
  same_after m n later seen s h k (Err e) is = refl

  -- the number of tokens doesn't matter, where it is enough
  enough : (m n : ℕ) (seen : List X) (s : Left) → length s.tokens < m → length s.tokens < n →
      repeat_in goes read m seen s ≡ repeat_in goes read n seen s
  enough zero n seen s h k = absurd (omega arith)
  enough (suc m) zero seen s h k = absurd (omega arith)
  enough (suc m) (suc n) seen s h k =
      elim (cases_Bool (goes (words s))) [
        | inl more ↦ in_goes m seen s more ∙ same_after m n (enough m n) seen s h k (read seen s) refl
            ∙ sym (in_goes n seen s more)
        | inr stops ↦ in_stops (suc m) seen s stops ∙ sym (in_stops (suc n) seen s stops)
      ]

  -- as many steps as there are tokens, and one more, do for the whole list
  pub opened : (s : Left) (r : Read (List X)) → repeat_from goes read [] s ≡ r →
      repeat_in goes read (suc (length s.tokens)) [] s ≡ r
  unfolding repeat_from
  opened s r e = e

  -- ---- what a loop does

  -- one item was read, and the others follow it
  pub repeat_more : (seen : List X) (s : Left) (x : X) (t : Left) → goes (words s) ≡ true → read seen s ≡ Ok (x, t) →
      repeat_from goes read seen s ≡ repeat_from goes read (seen ++ x ∷ []) t
  unfolding repeat_from
  repeat_more seen s x t h e =
      let less = moves seen s x t e in
      in_goes (length s.tokens) seen s h
      ∙ ap (onward (λ x. repeat_in goes read (length s.tokens) (seen ++ x ∷ []))) e
      ∙ enough (length s.tokens) (suc (length t.tokens)) (seen ++ x ∷ []) t less (omega arith)

  -- where the test fails, the list is what was seen
  pub repeat_stops : (seen : List X) (s : Left) → goes (words s) ≡ false → repeat_from goes read seen s ≡ Ok (seen, s)
  unfolding repeat_from
  repeat_stops seen s h = in_stops (suc (length s.tokens)) seen s h

  pub repeat_fails : (seen : List X) (s : Left) (e : Cause × Left) → goes (words s) ≡ true → read seen s ≡ Err e →
      repeat_from goes read seen s ≡ Err e
  unfolding repeat_from
  repeat_fails seen s e h k =
      in_goes (length s.tokens) seen s h ∙ ap (onward (λ x. repeat_in goes read (length s.tokens) (seen ++ x ∷ []))) k

  -- a loop's steps, where what it still reads is the whole
  pub so_far_more : (seen : List X) (s : Left) (x : X) (t : Left) (whole : Read (List X)) → goes (words s) ≡ true →
      read seen s ≡ Ok (x, t) →
      repeat_from goes read seen s ≡ whole → repeat_from goes read (seen ++ x ∷ []) t ≡ whole
  so_far_more seen s x t whole h e so_far = sym (repeat_more seen s x t h e) ∙ so_far

  -- a refused item refuses the whole
  pub so_far_fails : (seen : List X) (s : Left) (stop : Cause × Left) (whole : Read (List X)) → goes (words s) ≡ true →
      read seen s ≡ Err stop →
      repeat_from goes read seen s ≡ whole → whole ≡ Err stop
  so_far_fails seen s stop whole h is so_far = sym so_far ∙ repeat_fails seen s stop h is

  -- where the test fails, what was seen is the whole
  pub so_far_done : (seen : List X) (s : Left) (whole : Read (List X)) → goes (words s) ≡ false →
      repeat_from goes read seen s ≡ whole → whole ≡ Ok (seen, s)
  so_far_done seen s whole h so_far = sym so_far ∙ repeat_stops seen s h
