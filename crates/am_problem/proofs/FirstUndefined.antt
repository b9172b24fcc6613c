-- The first name without a rule, token by token.
use Rattle.std.proofs.Common.{◌≡◌, ℕ, Bool, true, false, cond, not, List, [], ◌∷◌, Option, Some, None, bytes_eq, codes}
use Rattle.std.proofs.Common.{find, ap, refl, ◌∙◌}
use Rattle.std.specs.Option.{option_map}
use Rattle.std.proofs.lemmas.List.Sums.{take_while-cons}
use Rattle.am_text.specs.Tokens.{Placed}
use Rattle.am_syntax.specs.Readers.{Word}
use Rattle.am_problem.specs.Texts.{before_end, is_undefined, undefined_in}

step : (test : Placed → Bool) (t : Placed) (rest : List Placed) (ends here : Bool) → test t ≡ here →
    option_map (λ (t : Placed). t.place) (find test (cond (not ends) (t ∷ rest) []))
    ≡ cond ends None (cond here (Some t.place) (option_map (λ (t : Placed). t.place) (find test rest)))
step test t rest true here is = refl
step test t rest false true is =
    ap (λ b. option_map (λ (t : Placed). t.place) (cond b (Some t) (find test rest))) is
step test t rest false false is =
    ap (λ b. option_map (λ (t : Placed). t.place) (cond b (Some t) (find test rest))) is

-- no token is a name
pub undefined-nil : (names : List Word) → undefined_in names [] ≡ None
unfolding undefined_in
undefined-nil names = refl

-- a token ends the problem, is the first name without a rule, or is passed over
pub undefined-cons : (names : List Word) (t : Placed) (ts : List Placed) →
    undefined_in names (t ∷ ts) ≡ cond (bytes_eq t.word (codes "end")) None
    (cond (is_undefined names t.word) (Some t.place) (undefined_in names ts))
unfolding undefined_in
undefined-cons names t ts =
    ap (λ us. option_map (λ (t : Placed). t.place) (find (λ (t : Placed). is_undefined names t.word) us))
    (take_while-cons (λ (t : Placed). not (bytes_eq t.word (codes "end"))) t ts)
    ∙ step (λ (t : Placed). is_undefined names t.word) t (before_end ts) (bytes_eq t.word (codes "end"))
    (is_undefined names t.word) refl

-- both, for a search token by token
pub ruleset first_undefined = (undefined-nil, undefined-cons)
