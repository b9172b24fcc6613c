-- What was taken from the front of a text.
use Rattle.std.proofs.Common.{◌≡◌, ℕ, ◌+◌, List, [], ◌∷◌, ◌++◌, length, ap, ◌∙◌, sym, refl, append_assoc, arith}
use Rattle.std.proofs.Common.{length-append}
use Rattle.std.proofs.lemmas.List.{length-map, map-append}
use Rattle.am_text.specs.Tokens.{Left, Placed, words}
use Rattle.am_syntax.specs.Exact.{Takes, words_in}
use Rattle.am_syntax.specs.Readers.{Word, Words}

-- no words, no token
pub Takes-none : (s : Left) → Takes s [] s
Takes-none s = record { front = []; split = refl; spelled = refl; same_end = refl }

-- words after words are taken in turn
pub Takes-then : (s : Left) (a : Words) (t : Left) (b : Words) (u : Left) → Takes s a t → Takes t b u →
    Takes s (a ++ b) u
Takes-then s a t b u p q = record {
  front = p.front ++ q.front;
  split = p.split ∙ ap (λ (ts : List Placed). p.front ++ ts) q.split ∙ sym (append_assoc p.front q.front u.tokens);
  spelled =
      map-append (λ (t : Placed). t.word) p.front q.front ∙ ap (λ (ws : Words). ws ++ words_in q.front) p.spelled
      ∙ ap (λ (ws : Words). a ++ ws) q.spelled;
  same_end = p.same_end ∙ q.same_end;
}

-- what was left are the words that were taken, then those that are left
pub Takes-words : (s : Left) (text : Words) (t : Left) → Takes s text t → words s ≡ text ++ words t
Takes-words s text t p =
    ap words_in p.split ∙ map-append (λ (t : Placed). t.word) p.front t.tokens
    ∙ ap (λ (ws : Words). ws ++ words t) p.spelled

-- the tokens are counted so
pub Takes-length : (s : Left) (text : Words) (t : Left) → Takes s text t →
    length s.tokens ≡ length text + length t.tokens
Takes-length s text t p =
    omega (
      arith,
      ap length p.split ∙ length-append p.front t.tokens,
      sym (length-map p.front (λ (t : Placed). t.word)),
      ap length p.spelled,
    )

-- a list of tokens whose words are two lists
record Parts (ts : List Placed) (a b : Words) : Type 0 where
  one : List Placed
  two : List Placed
  whole : ts ≡ one ++ two
  first : words_in one ≡ a
  second : words_in two ≡ b

parts : (ts : List Placed) (a b : Words) → words_in ts ≡ a ++ b → Parts ts a b
parts ts [] b e = record { one = []; two = ts; whole = refl; first = refl; second = e }
parts [] (v ∷ a) b e = absurd cc
parts (t ∷ ts) (v ∷ a) b e =
    let head : t.word ≡ v = cc in
    let tail : words_in ts ≡ a ++ b = cc in
    let later = parts ts a b tail in
    record {
      one = t ∷ later.one;
      two = later.two;
      whole = ap (λ (us : List Placed). t ∷ us) later.whole;
      first = ap (λ (w : Word). w ∷ words_in later.one) head ∙ ap (λ (ws : Words). v ∷ ws) later.first;
      second = later.second;
    }

-- what is taken in one go is taken in two
pub record Halves (s : Left) (a b : Words) (u : Left) : Type 0 where
  pub between : Left
  pub first : Takes s a between
  pub second : Takes between b u

-- words after words that were taken were taken in turn
pub Takes-halves : (s : Left) (a b : Words) (u : Left) → Takes s (a ++ b) u → Halves s a b u
Takes-halves s a b u p =
    let q = parts p.front a b p.spelled in
    record {
      between = record { tokens = q.two ++ u.tokens; end = s.end };
      first =
          record {
            front = q.one;
            split = p.split ∙ ap (λ (ts : List Placed). ts ++ u.tokens) q.whole
                ∙ append_assoc q.one q.two u.tokens;
            spelled = q.first;
            same_end = refl;
          };
      second = record { front = q.two; split = refl; spelled = q.second; same_end = p.same_end };
    }

no_tokens : (ts : List Placed) → words_in ts ≡ [] → ts ≡ []
no_tokens [] e = refl
no_tokens (t ∷ ts) e = absurd cc

-- where no word was taken, nothing changed
pub Takes-nothing : (s t : Left) → Takes s [] t → s ≡ t
Takes-nothing s t p =
    let split : s.tokens ≡ t.tokens =
    p.split ∙ ap (λ (ts : List Placed). ts ++ t.tokens) (no_tokens p.front p.spelled) in
    ap (λ (ts : List Placed). record { tokens = ts; end = s.end }) split
    ∙ ap (λ (e : ℕ). record { tokens = t.tokens; end = e }) p.same_end
