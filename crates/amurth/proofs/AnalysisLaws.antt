-- How certificates and a flow are read, settled, and fit to be run.
use Rattle.std.proofs.Common.{◌≡◌, ℕ, suc, ◌<◌, ◌≤◌, true, List, [], ◌∷◌, ◌++◌, Result, Ok, Err, length, ap, sym, subst}
use Rattle.std.proofs.Common.{refl, ◌∙◌, inl, inr, arith, nat_lt}
use Rattle.std.specs.Prelude.{codes}
use Rattle.std.proofs.lemmas.List.{append_assoc}
use Rattle.am_text.specs.Tokens.{Left, Placed, text_left, words}
use Rattle.am_problem.specs.Texts.{draft as problem_draft}
use Rattle.am_problem.proofs.Laws.{draft_advances}
use Rattle.am_syntax.specs.Pieces.{MovesOn, keyed, next_is, repeat_from}
use Rattle.am_syntax.specs.Readers.{Read, Reader, judged, judged_in}
use Rattle.am_syntax.specs.declared.refusal.Cause.{Cause}
use Rattle.am_syntax.specs.declared.refusal.Cause.TheVariants.{Count}
use Rattle.am_syntax.specs.Texts.{Answers, MakesAt, whole}
use Rattle.am_syntax.specs.declared.refusal.ReadError.{ReadError}
use Rattle.am_syntax.specs.declared.refusal.ReadError.TheVariants.{NoMemory, Refused}
use Rattle.am_syntax.specs.declared.refusal.Refusal.{Refusal}
use Rattle.am_syntax.proofs.Laws.{Takes-length, bind_ok, chosen, ok_is, reached_ok, so_far_fails}
use Rattle.am_cert.specs.Certificate.{Certificate}
use Rattle.am_cert.specs.declared.limits.TheConstants.{MOST_BYTES}
use Rattle.am_cert.specs.Grammar.{shape_of, version}
use Rattle.am_cert.specs.Texts.{Draft, IsShort, answered, draft, settled}
use Rattle.am_cert.specs.Versions.{has_hints}
use Rattle.am_cert.proofs.Laws.{answered_law, draft_shape, heading_law, left_short, reached_length, reached_short}
use Rattle.am_cert.proofs.Laws.{text_short}
use Rattle.amurth.specs.Analysed.{all_settled, behind, certificate_after}
use Rattle.amurth.specs.inside.Analyses.{ReadsAt}
use Rattle.amurth.specs.declared.limits.TheConstants.{MOST_CERTIFICATES}

-- ---- reading

-- a certificate takes a token at least
draft_moves : (s t : Left) (d : Draft) → draft s ≡ Ok (d, t) → length t.tokens < length s.tokens
unfolding draft
draft_moves s t d e =
    let f = bind_ok ((keyed (codes "certificate") version).read s) _ (d, t) e in
    let g = bind_ok (problem_draft f.0.1) _ (d, t) f.2 in
    let h = bind_ok (answered f.0.0 g.0.0 g.0.1) _ (d, t) g.2 in
    let made : Draft × Left = (record { version = f.0.0; problem = g.0.0; answer = h.0.0 }, h.0.1) in
    let same : h.0.1 ≡ t = ap (λ (q : Draft × Left). q.1) (ok_is made (d, t) h.2) in
    let one = Takes-length s _ f.0.1 (heading_law.takes s f.0.0 f.0.1 f.1).0 in
    let two = reached_length f.0.1 g.0.1 (reached_ok problem_draft f.0.1 g.0.1 g.0.0 draft_advances g.1) in
    let shape = draft_shape f.0.1 g.0.1 g.0.0 g.1 in
    let law = answered_law (shape_of g.0.0.lines) shape (has_hints f.0.0) in
    let three = Takes-length g.0.1 _ h.0.1 (law.takes g.0.1 h.0.0 h.0.1 h.1).0 in
    subst (λ (u : Left). length u.tokens < length s.tokens) same (omega (arith, one, two, three))

-- after a certificate of a short text, what is left is short
draft_short : (s t : Left) (d : Draft) → draft s ≡ Ok (d, t) → IsShort s → IsShort t
unfolding draft
draft_short s t d e short =
    let f = bind_ok ((keyed (codes "certificate") version).read s) _ (d, t) e in
    let g = bind_ok (problem_draft f.0.1) _ (d, t) f.2 in
    let h = bind_ok (answered f.0.0 g.0.0 g.0.1) _ (d, t) g.2 in
    let made : Draft × Left = (record { version = f.0.0; problem = g.0.0; answer = h.0.0 }, h.0.1) in
    let same : h.0.1 ≡ t = ap (λ (q : Draft × Left). q.1) (ok_is made (d, t) h.2) in
    let one = left_short s _ f.0.1 (heading_law.takes s f.0.0 f.0.1 f.1).0 short in
    let two = reached_short f.0.1 g.0.1 (reached_ok problem_draft f.0.1 g.0.1 g.0.0 draft_advances g.1) one in
    let law = answered_law (shape_of g.0.0.lines) (draft_shape f.0.1 g.0.1 g.0.0 g.1) (has_hints f.0.0) in
    subst IsShort same (left_short g.0.1 _ h.0.1 (law.takes g.0.1 h.0.0 h.0.1 h.1).0 two)

none_read : (tokens : List Placed) (end : ℕ) (d : Draft) (t : Left) →
    judged_in {X = Draft} (λ _. Err Count) tokens end ≡ Ok (d, t) → ⊥
none_read [] end d t e = absurd (let f : ◌≡◌ {A = Read Draft} (Err _) (Ok (d, t)) = e in cc)
none_read (p ∷ ps) end d t e = absurd (let f : ◌≡◌ {A = Read Draft} (Err _) (Ok (d, t)) = e in cc)

refused_draft : (s t : Left) (d : Draft) → judged {X = Draft} (λ _. Err Count) s ≡ Ok (d, t) → ⊥
unfolding judged
refused_draft s t d e = none_read s.tokens s.end d t e

-- a certificate after others takes a token at least
pub certificate_moves_on : MovesOn certificate_after
certificate_moves_on seen s d t e =
    elim (chosen (nat_lt (length seen) MOST_CERTIFICATES) (draft s) (judged (λ _. Err Count) s) (Ok (d, t)) e) [
      | inl more ↦ draft_moves s t d more.1
      | inr none ↦ absurd (refused_draft s t d none.1)
    ]

-- .. and leaves a short text short
pub certificate_leaves_short : (seen : List Draft) (s t : Left) (d : Draft) → certificate_after seen s ≡ Ok (d, t) →
    IsShort s →
    IsShort t
certificate_leaves_short seen s t d e short =
    elim (chosen (nat_lt (length seen) MOST_CERTIFICATES) (draft s) (judged (λ _. Err Count) s) (Ok (d, t)) e) [
      | inl more ↦ draft_short s t d more.1 short
      | inr none ↦ absurd (refused_draft s t d none.1)
    ]

-- ---- settling

-- certificates in front of others, or the refusal of those
abbrev pub prefixed : List Certificate → Result (List Certificate) Refusal → Result (List Certificate) Refusal
prefixed front (Ok cs) = Ok (front ++ cs)
prefixed front (Err r) = Err r

prefixed_after : (front : List Certificate) (c : Certificate) (rest : Result (List Certificate) Refusal) →
    prefixed front (behind (Ok c) rest) ≡ prefixed (front ++ c ∷ []) rest
prefixed_after front c (Ok cs) = ap (λ (xs : List Certificate). Ok xs) (sym (append_assoc front (c ∷ []) cs))
prefixed_after front c (Err r) = refl

-- one more draft is settled
pub settled_more : (front : List Certificate) (d : Draft) (ds : List Draft) (c : Certificate) → settled d ≡ Ok c →
    prefixed front (all_settled (d ∷ ds)) ≡ prefixed (front ++ c ∷ []) (all_settled ds)
settled_more front d ds c e =
    ap (λ (r : Result Certificate Refusal). prefixed front (behind r (all_settled ds))) e
    ∙ prefixed_after front c (all_settled ds)

-- a draft is refused
pub settled_stops : (front : List Certificate) (d : Draft) (ds : List Draft) (r : Refusal) → settled d ≡ Err r →
    prefixed front (all_settled (d ∷ ds)) ≡ Err r
settled_stops front d ds r e = ap (λ (q : Result Certificate Refusal). prefixed front (behind q (all_settled ds))) e

prefixed_none : (r : Result (List Certificate) Refusal) → prefixed [] r ≡ r
prefixed_none (Ok cs) = refl
prefixed_none (Err r) = refl

-- ---- what calls answer

-- a part that is refused, at the token where the cursor stands, makes the whole refused
pub reads_err : {A B X Y : Type 0} (view : A → X) (other : B → Y) (e : ReadError) (left : Left) (part : Read X)
    (whole : Read Y) → ((stop : Cause × Left) → part ≡ Err stop → whole ≡ Err stop) →
    ReadsAt view (Err e) left part → ReadsAt other (Err e) left whole
reads_err view other (Refused r) left part whole on h = (h.0, on (h.0, left) h.1, h.2)
reads_err view other NoMemory left part whole on h = tt

-- what a call of the middle of a text makes is read
pub made_reads : {A X : Type 0} (view : A → X) (result : Result A ReadError) (old new : Left) (reader : Reader X) →
    MakesAt view result old new reader → ReadsAt view result new (reader old)
made_reads view (Ok x) old new reader h = h
made_reads view (Err (Refused r)) old new reader h = h
made_reads view (Err NoMemory) old new reader h = tt

-- ---- whole texts

-- a refusal that was read is the text's
pub read_refused : {A X : Type 0} (view : A → X) (e : ReadError) (left : Left) (read : Read X)
    (answer : Result X Refusal) →
    whole read ≡ answer → ReadsAt view (Err e) left read → Answers view (Err e) answer
read_refused view (Refused r) left read answer is h = sym is ∙ ap whole h.1 ∙ ap (λ (r : Refusal). Err r) (sym h.2)
read_refused view NoMemory left read answer is h = tt

counted : (ds : List Draft) (n : ℕ) (one : Result Certificate Refusal) (rest : Result (List Certificate) Refusal)
    (cs : List Certificate) → ((xs : List Certificate) → rest ≡ Ok xs → length xs ≡ n) → behind one rest ≡ Ok cs →
    length cs ≡ suc n
counted ds n (Ok c) (Ok xs) cs same e =
    let is : c ∷ xs ≡ cs = (let f : ◌≡◌ {A = Result (List Certificate) Refusal} (Ok (c ∷ xs)) (Ok cs) = e in cc) in
    ap length (sym is) ∙ ap suc (same xs refl)
counted ds n (Ok c) (Err r) cs same e =
    absurd (let f : ◌≡◌ {A = Result (List Certificate) Refusal} (Err r) (Ok cs) = e in cc)
counted ds n (Err r) rest cs same e =
    absurd (let f : ◌≡◌ {A = Result (List Certificate) Refusal} (Err r) (Ok cs) = e in cc)

-- as many certificates as drafts
pub settled_length : (ds : List Draft) (cs : List Certificate) → all_settled ds ≡ Ok cs → length cs ≡ length ds
settled_length [] cs e =
    let is : [] ≡ cs = (let f : ◌≡◌ {A = Result (List Certificate) Refusal} (Ok []) (Ok cs) = e in cc) in
    ap length (sym is)
settled_length (d ∷ ds) cs e =
    counted ds (length ds) (settled d) (all_settled ds) cs (λ xs f. settled_length ds xs f) e

-- a certificate after those that were read is refused
pub loop_refused : {A : Type 0} (view : A → List Draft) (result : Result A ReadError) (e : ReadError) → result ≡ Err e →
    (seen : List Draft) (s left : Left) (all : Read (List Draft)) → next_is (codes "certificate") (words s) ≡ true →
    repeat_from (next_is (codes "certificate")) certificate_after seen s ≡ all →
    ReadsAt (λ (d : Draft). d) (Err e) left (certificate_after seen s) → ReadsAt view result left all
loop_refused {A = A} view result e is seen s left all comes so_far h =
    subst (λ (q : Result A ReadError). ReadsAt view q left all) (sym is)
    (reads_err (λ (d : Draft). d) view e left (certificate_after seen s) all
    (λ stop refused.
    so_far_fails (next_is (codes "certificate")) certificate_after certificate_moves_on seen s stop all comes refused
    so_far)
    h)

-- an input is short
pub input_short : (text : List ℕ) (s : Left) → s ≡ text_left text → length text ≤ MOST_BYTES → IsShort s
input_short text s is most = subst IsShort (sym is) (text_short text (omega (arith, most)))
