-- What a loop over a number of items does, and what a call answers that failed or read ahead.
use Rattle.std.proofs.Common.{◌≡◌, ℕ, suc, ◌+◌, ◌-◌, ◌<◌, ◌≤◌, List, [], ◌∷◌, ◌++◌, Result, Ok, Err, refl, sym, ap}
use Rattle.std.proofs.Common.{subst, ◌∙◌, arith}
use Rattle.am_text.specs.Tokens.{Left}
use Rattle.am_syntax.specs.declared.refusal.Cause.{Cause}
use Rattle.am_syntax.specs.declared.refusal.Failure.{Failure}
use Rattle.am_syntax.specs.declared.refusal.Failure.TheVariants.{Refused, NoMemory}
use Rattle.am_syntax.specs.Readers.{◌>>=◌, GivesRead, Makes, Read, Reader, follows, onward}
use Rattle.am_syntax.specs.Pieces.{times_from}

-- what a call answers that takes no memory and is refused
pub gives_err : {X Y : Type 0} (view : X → Y) (old left : Left) (reader : Reader Y) (cause : Cause)
    (r : Result X Cause) → r ≡ Err cause → reader old ≡ Err (cause, left) → GivesRead view r old left reader
gives_err {X = X} view old left reader cause r is h =
    subst (λ (q : Result X Cause). GivesRead view q old left reader) (sym is) h

-- what a call answers that failed: its refusal is the reader's
pub makes_err : {X Y : Type 0} (view : X → Y) (old left : Left) (reader : Reader Y) (e : Failure)
    (r : Result X Failure) → r ≡ Err e → ((cause : Cause) → e ≡ Refused cause → reader old ≡ Err (cause, left)) →
    Makes view r old left reader
makes_err {X = X} view old left reader e r is h =
    subst (λ (q : Result X Failure). Makes view q old left reader) (sym is) h

-- what a call answers that is refused
pub makes_refused : {X Y : Type 0} (view : X → Y) (old left : Left) (reader : Reader Y) (cause : Cause)
    (r : Result X Failure) → r ≡ Err (Refused cause) → reader old ≡ Err (cause, left) → Makes view r old left reader
makes_refused {X = X} {Y = Y} view old left reader cause r is h =
    makes_err view old left reader (Refused cause) r is (λ other same.
    let e : cause ≡ other = cc in h ∙ ap (λ (c : Cause). Err (c, left)) e)

-- what a call answers that reads ahead of a cursor
pub makes_ahead : {X Y : Type 0} (view : X → Y) (old ahead : Left) (r : Result X Failure) (reader : Reader Y) →
    Makes view r old ahead reader → Makes view r old (follows old ahead r) reader
makes_ahead view old ahead (Ok x) reader made = made
makes_ahead view old ahead (Err (Refused cause)) reader made = made
makes_ahead view old ahead (Err NoMemory) reader made = λ cause is. absurd cc

module _ {X : Type 0} (item : List X → Reader X) where
  abbrev step : ℕ → List X → Reader (List X)
  step n seen = item seen >>= λ x. times_from item n (seen ++ x ∷ [])

  times_one : (n : ℕ) (seen : List X) (s : Left) → times_from item (suc n) seen s ≡ step n seen s
  unfolding times_from
  times_one n seen s = refl

  times_zero : (seen : List X) (s : Left) → times_from item 0 seen s ≡ Ok (seen, s)
  unfolding times_from
  times_zero seen s = refl

  next_one : (n i : ℕ) (seen : List X) (s : Left) (r : Read X) → i < n → item seen s ≡ r →
      times_from item (n - i) seen s ≡ onward (λ x. times_from item (n - (i + 1)) (seen ++ x ∷ [])) r
  next_one n i seen s r below e =
      let k : n - i ≡ suc (n - (i + 1)) = omega arith in
      ap (λ m. times_from item m seen s) k ∙ times_one (n - (i + 1)) seen s
      ∙ ap (onward (λ x. times_from item (n - (i + 1)) (seen ++ x ∷ []))) e

  -- one more item was read
  pub times_more : (n i : ℕ) (seen : List X) (s : Left) (x : X) (t : Left) (whole : Read (List X)) → i < n →
      item seen s ≡ Ok (x, t) →
      times_from item (n - i) seen s ≡ whole → times_from item (n - (i + 1)) (seen ++ x ∷ []) t ≡ whole
  times_more n i seen s x t whole below e so_far = sym (next_one n i seen s (Ok (x, t)) below e) ∙ so_far

  -- a refused item refuses the whole
  pub times_fails : (n i : ℕ) (seen : List X) (s : Left) (stop : Cause × Left) (whole : Read (List X)) → i < n →
      item seen s ≡ Err stop →
      times_from item (n - i) seen s ≡ whole → whole ≡ Err stop
  times_fails n i seen s stop whole below is so_far = sym so_far ∙ next_one n i seen s (Err stop) below is

  -- all items were read
  pub times_done : (n i : ℕ) (seen : List X) (s : Left) (whole : Read (List X)) → n ≤ i →
      times_from item (n - i) seen s ≡ whole → whole ≡ Ok (seen, s)
  times_done n i seen s whole le so_far =
      let k : n - i ≡ 0 = omega arith in
      sym so_far ∙ ap (λ m. times_from item m seen s) k ∙ times_zero seen s
