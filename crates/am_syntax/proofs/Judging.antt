-- What a judge says of the next token.
use Rattle.std.proofs.Common.{◌≡◌, [], ◌∷◌, Result, Ok, Err, sym, ap, ◌∙◌}
use Rattle.am_text.specs.Tokens.{Left, Placed}
use Rattle.am_syntax.specs.declared.refusal.Cause.{Cause}
use Rattle.am_syntax.specs.declared.refusal.Cause.TheVariants.{Syntax}
use Rattle.am_syntax.specs.Readers.{Word, judged, judged_in, settled}

module _ {X : Type 0} (judge : Word → Result X Cause) (s : Left) where
  -- the end of the text
  pub judged_end : s.tokens ≡ [] → judged judge s ≡ Err (Syntax, s)
  unfolding judged
  judged_end h =
      ap (λ ts. judged_in judge ts s.end) h ∙ ap (λ ts. Err (Syntax, record { tokens = ts; end = s.end })) (sym h)

  module _ (t : Placed) (left : Left) (here : s ≡ record left { tokens = t ∷ left.tokens }) where
    -- a token that passes
    pub judged_ok : (x : X) → judge t.word ≡ Ok x → judged judge s ≡ Ok (x, left)
    unfolding judged
    judged_ok x e = ap (λ (l : Left). judged_in judge l.tokens l.end) here ∙ ap (settled t left.tokens left.end) e

    -- a token that is refused
    pub judged_err : (cause : Cause) → judge t.word ≡ Err cause → judged judge s ≡ Err (cause, s)
    unfolding judged
    judged_err cause e =
        ap (λ (l : Left). judged_in judge l.tokens l.end) here ∙ ap (settled t left.tokens left.end) e
        ∙ ap (λ (l : Left). Err (cause, l)) (sym here)
