-- A text is a certificate's exactly where that certificate is read from it, and else it has a first refusal.
use Rattle.std.proofs.Common.{◌≡◌, ℕ, ◌^◌, ◌<◌, ◌≤◌, cond, List, [], ◌∷◌, ◌++◌, bytes_eq, codes, length, Option, Some}
use Rattle.std.proofs.Common.{None, Result, Ok, Err, ap, subst, ◌∙◌, sym, refl, inl, inr, arith}
use Rattle.std.specs.Prelude.{IfErr, IfOk}
use Rattle.std.proofs.lemmas.List.{append-nil}
use Rattle.am_problem.specs.Grammar.{problem}
use Rattle.am_problem.specs.Limits.{IsProblem}
use Rattle.am_problem.specs.Lines.{Lines}
use Rattle.am_problem.specs.Problem.{Problem}
use Rattle.am_problem.specs.Texts.{Draft as ProblemDraft, IfRefused, draft as problem_draft, draft_with, named}
use Rattle.am_problem.specs.Texts.{settled as settled_problem}
use Rattle.am_problem.specs.lemmas.KindLaws.{laws_of}
use Rattle.am_problem.proofs.Laws.{IsLines, draft_again, draft_takes, lines_good, lines_of_formed, problem_law}
use Rattle.am_text.specs.Tokens.{Left, Placed, bad_byte, text_left, tokens_at}
use Rattle.am_syntax.specs.Exact.{IsExact, Takes, always, words_in}
use Rattle.am_syntax.specs.Numerals.{is_digits}
use Rattle.am_syntax.specs.Pieces.{closed, keyed, syntax}
use Rattle.am_syntax.specs.Readers.{◌>>=◌, Read, Word, Words, done, onward}
use Rattle.am_syntax.specs.Texts.{Answers, ended, opened, read_whole, whole}
use Rattle.am_syntax.specs.declared.refusal.Cause.{Cause}
use Rattle.am_syntax.specs.declared.refusal.Cause.TheVariants.{Number, Syntax}
use Rattle.am_syntax.specs.declared.refusal.ReadError.{ReadError}
use Rattle.am_syntax.specs.declared.refusal.ReadError.TheVariants.{NoMemory, Refused}
use Rattle.am_syntax.specs.declared.refusal.Refusal.{Refusal}
use Rattle.am_syntax.proofs.Laws.{Takes-halves, Takes-then, Takes-words, bind_ok, chosen, keyed_law, ok_is}
use Rattle.am_syntax.proofs.Laws.{same_bytes, token_law}
use Rattle.am_cert.specs.Certificate.{Certificate, IsCertificate, answer_of}
use Rattle.am_cert.specs.Grammar.{ProblemShape, answer, outcome, shape_of, version, version_judge, version_word}
use Rattle.am_cert.specs.Texts.{Draft, IsSettledCertificate, ReadsAsCertificate, answered, certificate_of}
use Rattle.am_cert.specs.Texts.{settled_certificate_of}
use Rattle.am_cert.specs.Texts.{certificate_words, IsShort, draft, settled, settled_with}
use Rattle.am_cert.specs.Versions.{has_hints}
use Rattle.am_cert.specs.declared.answer.Answer.{Answer}
use Rattle.am_cert.specs.declared.version.Version.{Version}
use Rattle.am_cert.specs.declared.version.Version.TheVariants.{Four, One, Three, Two}
use Rattle.am_cert.specs.inside.Drafts.{CanFollow}
use Rattle.am_cert.specs.inside.Shapes.{IsProblemShape}
use Rattle.am_cert.proofs.AnswerLaws.{answered_law}
use Rattle.am_cert.proofs.Bounds.{before_bytes, both_bytes, bytes, left_short, taken_short, text_short}
use Rattle.am_cert.proofs.Following.{answer_stands, good_answer}

-- ---- the version

-- a word is that of a version, or else of one of the later ones
version_or : (v : Word) (y x : Version) (later : Result Version Cause) →
    cond (bytes_eq v (version_word y)) (Ok y) later ≡ Ok x → (later ≡ Ok x → v ≡ version_word x) → v ≡ version_word x
version_or v y x later e others = elim (chosen (bytes_eq v (version_word y)) (Ok y) later (Ok x) e) [
  | inl this ↦
      let is : y ≡ x = (let f : ◌≡◌ {A = Result Version Cause} (Ok y) (Ok x) = this.1 in cc) in
      same_bytes v (version_word y) this.0 ∙ ap version_word is
  | inr other ↦ others other.1
]

no_version : (v : Word) (x : Version) → ◌≡◌ {A = Result Version Cause} (Err (cond (is_digits v) Number Syntax)) (Ok x) →
    ⊥
no_version v x e = cc

version_to : (v : Word) (x : Version) → version_judge v ≡ Ok x → v ≡ version_word x
version_to v x e =
    version_or v One x _ e (λ two.
    version_or v Two x _ two (λ three.
    version_or v Three x _ three (λ four.
    version_or v Four x _ four (λ none. absurd (no_version v x none)))))

version_back : (x : Version) → version_judge (version_word x) ≡ Ok x
version_back One = refl
version_back Two = refl
version_back Three = refl
version_back Four = refl

version_law : IsExact version always
unfolding version
version_law =
    token_law version_judge version_word (λ _. Unit {0}) (λ v x e. (version_to v x e, tt)) (λ x good. version_back x)

-- the first line is read as it is spelled, and spelled as it is read
pub heading_law : IsExact (keyed (codes "certificate") version) always
heading_law = keyed_law syntax (codes "certificate") version_law

-- ---- what a problem says of the rows after it

-- what good lines say of the rows after them is right
pub lines_shape : (l : Lines) → IsLines l → IsProblemShape (shape_of l)
lines_shape l is = record {
  width = is.width.1;
  inputs = is.inputs.1;
  fields = (laws_of l.kind).few_fields;
  turns = is.turns;
}

problem_shape : (p : Problem) → IsProblem p → IsProblemShape (shape_of (named p))
problem_shape p is = lines_shape (named p) (lines_of_formed p is.formed)

-- a problem that was read has few fields
pub draft_shape : (s t : Left) (d : ProblemDraft) → problem_draft s ≡ Ok (d, t) → IsProblemShape (shape_of d.lines)
draft_shape s t d read =
    let f = bind_ok (problem.read s) (λ l. done (draft_with s.tokens l)) (d, t) read in
    let same = ok_is (draft_with s.tokens f.0.0, f.0.1) (d, t) f.2 in
    subst (λ (q : ProblemDraft × Left). IsProblemShape (shape_of q.0.lines)) same
    (lines_shape f.0.0 (lines_good f.0.0 (problem_law.takes s f.0.0 f.0.1 f.1).1))

-- ---- the answer

module _ (s t u : Left) (v : Version) (d : ProblemDraft) (a : Answer) (read : problem_draft s ≡ Ok (d, t))
    (behind : answered v d t ≡ Ok (a, u)) where
  abbrev taken : Takes t
      ((closed (codes "end") (keyed (codes "answer") (answer (has_hints v) (shape_of d.lines)))).spell a) u
      × (answer (has_hints v) (shape_of d.lines)).Good a
  taken = (answered_law (shape_of d.lines) (draft_shape s t d read) (has_hints v)).takes t a u behind

  -- an answer that was read from a short text can follow its problem
  pub answer_follows : IsShort t → CanFollow v d a
  answer_follows short =
      let spelled = (answer (has_hints v) (shape_of d.lines)).spell a in
      let all = codes "answer" ∷ (spelled ++ codes "end" ∷ []) in
      let few : bytes spelled ≤ 2 ^ 32 =
      omega (
        arith,
        taken_short t all u taken.0 short,
        before_bytes (codes "answer") (spelled ++ codes "end" ∷ []),
        both_bytes spelled (codes "end" ∷ []),
      ) in
      let stands = answer_stands v (shape_of d.lines) (has_hints v) refl a taken.1 few in
      record { outcome = stands.good; bounded = stands.bounded; proofs = stands.proofs }

-- ---- certificates that are read are spelled so

record IsSettledTo (v : Version) (a : Answer) (r : Result Problem Refusal) (c : Certificate) : Type 0 where
  problem : Problem
  settles : r ≡ Ok problem
  is : record { version = v; problem = problem; outcome = a.outcome; proofs = a.proofs } ≡ c

settled_parts : (v : Version) (a : Answer) (r : Result Problem Refusal) (c : Certificate) →
    settled_with v a r ≡ Ok c → IsSettledTo v a r c
settled_parts v a (Ok p) c e = record { problem = p; settles = refl; is = cc }
settled_parts v a (Err r) c e = absurd (let f : ◌≡◌ {A = Result Certificate Refusal} (Err r) (Ok c) = e in cc)

-- what was read to a draft
record IsRead (s t : Left) (d : Draft) : Type 0 where
  after_version : Left
  after_problem : Left
  heading : (keyed (codes "certificate") version).read s ≡ Ok (d.version, after_version)
  problem : problem_draft after_version ≡ Ok (d.problem, after_problem)
  answer : answered d.version d.problem after_problem ≡ Ok (d.answer, t)

read_parts : (s t : Left) (d : Draft) → draft s ≡ Ok (d, t) → IsRead s t d
unfolding draft
read_parts s t d e =
    let f = bind_ok ((keyed (codes "certificate") version).read s) _ (d, t) e in
    let g = bind_ok (problem_draft f.0.1) _ (d, t) f.2 in
    let h = bind_ok (answered f.0.0 g.0.0 g.0.1) _ (d, t) g.2 in
    let made : Draft × Left = (record { version = f.0.0; problem = g.0.0; answer = h.0.0 }, h.0.1) in
    subst (λ (q : Draft × Left). IsRead s q.1 q.0) (ok_is made (d, t) h.2)
    (record {
      after_version = f.0.1;
      after_problem = g.0.1;
      heading = f.1;
      problem = g.1;
      answer = h.1;
    })

-- the words of a settled draft's certificate were taken, and the certificate is within all limits where the text is
-- short
pub certificate_takes : (s t : Left) (d : Draft) (c : Certificate) → draft s ≡ Ok (d, t) → settled d ≡ Ok c →
    IsShort s → Takes s (certificate_words c) t × IsCertificate c
unfolding version
certificate_takes s t d c read settles short =
    let r = read_parts s t d read in
    let to = settled_parts d.version d.answer (settled_problem d.problem) c settles in
    let p = to.problem in
    let heading = heading_law.takes s d.version r.after_version r.heading in
    let is = draft_takes r.after_version r.after_problem d.problem p r.problem to.settles in
    let shape = ap shape_of is.lines in
    let left = left_short r.after_version (problem.spell (named p)) r.after_problem is.taken
    (left_short s (codes "certificate" ∷ version_word d.version ∷ []) r.after_version heading.0 short) in
    let follows =
    answer_follows r.after_version r.after_problem t d.version d.problem d.answer r.problem r.answer left in
    let spelled : ProblemShape → Words =
    λ k. codes "answer" ∷ ((answer (has_hints d.version) k).spell d.answer ++ codes "end" ∷ []) in
    let behind : Takes r.after_problem (spelled (shape_of (named p))) t =
    subst (λ (k : ProblemShape). Takes r.after_problem (spelled k) t) shape
    (taken r.after_version r.after_problem t d.version d.problem d.answer r.problem r.answer).0 in
    subst (λ (k : Certificate). Takes s (certificate_words k) t × IsCertificate k) to.is (
      Takes-then s (codes "certificate" ∷ version_word d.version ∷ []) r.after_version _ t heading.0
          (Takes-then r.after_version (problem.spell (named p)) r.after_problem _ t is.taken behind),
      record {
        problem = is.limits;
        outcome = subst (λ (k : ProblemShape). (outcome k).Good d.answer.outcome) shape follows.outcome;
        bounded = follows.bounded;
        proofs = follows.proofs;
      },
    )

-- ---- certificates that are spelled are read

-- a draft that settles to a certificate
pub record HasCertificate (s t : Left) (c : Certificate) : Type 0 where
  pub found : Draft
  pub read : draft s ≡ Ok (found, t)
  pub settles : settled found ≡ Ok c

-- the words of a certificate give a draft that settles to it
pub certificate_again : (s t : Left) (c : Certificate) → IsCertificate c → Takes s (certificate_words c) t →
    HasCertificate s t c
unfolding version draft
certificate_again s t c is taken =
    let l = named c.problem in
    let by_hints = has_hints c.version in
    let last = codes "answer" ∷ ((answer by_hints (shape_of l)).spell (answer_of c) ++ codes "end" ∷ []) in
    let one = Takes-halves s (codes "certificate" ∷ version_word c.version ∷ []) (problem.spell l ++ last) t taken in
    let two = Takes-halves one.between (problem.spell l) last t one.second in
    let good = good_answer (shape_of l) c.version by_hints refl c.outcome c.proofs is.outcome is.proofs in
    let has = draft_again one.between two.between c.problem is.problem two.first in
    let behind : answered c.version has.found two.between ≡ Ok (answer_of c, t) =
    ap (λ (k : Lines). (closed (codes "end") (keyed (codes "answer") (answer by_hints (shape_of k)))).read two.between)
    has.lines
    ∙ (answered_law (shape_of l) (problem_shape c.problem is.problem) by_hints).again two.between (answer_of c) t good
    two.second tt in
    record {
      found = record { version = c.version; problem = has.found; answer = answer_of c };
      read =
          ap
          (onward
          (λ v. problem_draft >>= λ d. answered v d >>= λ a. done (record { version = v; problem = d; answer = a })))
          (heading_law.again s c.version one.between tt one.first tt)
          ∙ ap
          (onward (λ d. answered c.version d >>= λ a. done (record { version = c.version; problem = d; answer = a })))
          has.read
          ∙ ap (onward (λ a. done (record { version = c.version; problem = has.found; answer = a }))) behind;
      settles = ap (settled_with c.version (answer_of c)) has.settles;
    }

-- ---- whole texts

record IsFound (text : List ℕ) (c : Certificate) : Type 0 where
  allowed : bad_byte text ≡ None
  found : Draft
  left : Left
  read : draft (text_left text) ≡ Ok (found, left)
  ends : left.tokens ≡ []
  settles : settled found ≡ Ok c

abbrev ended_to : Draft → List Placed → Result Certificate Refusal
ended_to d tokens = settled_certificate_of (ended d tokens)

ended_parts : (d : Draft) (tokens : List Placed) (c : Certificate) → settled_certificate_of (ended d tokens) ≡ Ok c →
    (tokens ≡ []) × (settled d ≡ Ok c)
ended_parts d [] c e = (refl, e)
ended_parts d (t ∷ ts) c e = absurd (let f : ◌≡◌ {A = Result Certificate Refusal} (Err _) (Ok c) = e in cc)

found_whole : (text : List ℕ) (c : Certificate) (r : Read Draft) → bad_byte text ≡ None → draft (text_left text) ≡ r →
    settled_certificate_of (whole r) ≡ Ok c → IsFound text c
found_whole text c (Ok q) allowed read e =
    let parts = ended_parts q.0 q.1.tokens c e in
    record { allowed = allowed; found = q.0; left = q.1; read = read; ends = parts.0; settles = parts.1 }
found_whole text c (Err stop) allowed read e =
    absurd (let f : ◌≡◌ {A = Result Certificate Refusal} (Err _) (Ok c) = e in cc)

found_in : (text : List ℕ) (c : Certificate) (bad : Option ℕ) → bad_byte text ≡ bad →
    settled_certificate_of (opened draft text bad) ≡ Ok c → IsFound text c
found_in text c (Some place) allowed e =
    absurd (let f : ◌≡◌ {A = Result Certificate Refusal} (Err _) (Ok c) = e in cc)
found_in text c None allowed e = found_whole text c (draft (text_left text)) allowed refl e

reads_from : (text : List ℕ) (c : Certificate) → length text < 2 ^ 32 → certificate_of text ≡ Ok c → ReadsAsCertificate
    text c
unfolding read_whole
reads_from text c short e =
    let f = found_in text c (bad_byte text) refl e in
    let took =
    certificate_takes (text_left text) f.left f.found c f.read f.settles (text_short text short) in
    record {
      allowed = f.allowed;
      spelled =
          Takes-words (text_left text) (certificate_words c) f.left took.0
          ∙ ap (λ (ts : List Placed). certificate_words c ++ words_in ts) f.ends
          ∙ append-nil (certificate_words c);
      limits = took.1;
    }

-- the certificate of a text that is some certificate's
pub reads_to : (text : List ℕ) (c : Certificate) → ReadsAsCertificate text c → certificate_of text ≡ Ok c
unfolding read_whole
reads_to text c reads =
    let end : Left = record { tokens = []; end = length text } in
    let all : Takes (text_left text) (certificate_words c) end =
    record {
      front = tokens_at 0 text;
      split = sym (append-nil (tokens_at 0 text));
      spelled = reads.spelled;
      same_end = refl;
    } in
    let has = certificate_again (text_left text) end c reads.limits all in
    ap (λ (bad : Option ℕ). settled_certificate_of (opened draft text bad)) reads.allowed
    ∙ ap (λ (r : Read Draft). settled_certificate_of (whole r)) has.read
    ∙ has.settles

settled_so : (text : List ℕ) → length text < 2 ^ 32 → (answer : Result Certificate Refusal) →
    certificate_of text ≡ answer → IsSettledCertificate text
settled_so text short (Ok c) e =
    inl
    (c, reads_from text c short e, λ r h. let f : ◌≡◌ {A = Result Certificate Refusal} (Ok c) (Err r) = sym e ∙ h in cc)
settled_so text short (Err r) e =
    inr
    (r, e, λ c reads. let f : ◌≡◌ {A = Result Certificate Refusal} (Err r) (Ok c) = sym e ∙ reads_to text c reads in cc)

-- each text is some certificate's, or has a first refusal
pub all_texts_settled : (text : List ℕ) → length text < 2 ^ 32 → IsSettledCertificate text
all_texts_settled text short = settled_so text short (certificate_of text) refl

-- ---- what an exact answer says

-- what is read of a text is its certificate
pub found_by : (text : List ℕ) (result : Result Certificate ReadError) → length text < 2 ^ 32 →
    Answers (λ c. c) result (certificate_of text) → IfOk result (λ c. ReadsAsCertificate text c)
found_by text (Ok c) short h = reads_from text c short h
found_by text (Err e) short h = tt

-- a certificate's text is read as that certificate, and as no other
pub only_by : (text : List ℕ) (result : Result Certificate ReadError) → Answers (λ c. c) result (certificate_of text) →
    (c : Certificate) → ReadsAsCertificate text c → Answers (λ k. k) result (Ok c)
only_by text result h c reads = subst (Answers (λ k. k) result) (reads_to text c reads) h

-- what is refused of a text is its first refusal
pub first_by : (text : List ℕ) (result : Result Certificate ReadError) → Answers (λ c. c) result (certificate_of text) →
    IfErr result (λ e. IfRefused e (λ r. certificate_of text ≡ Err r))
first_by text (Ok c) h = tt
first_by text (Err (Refused r)) h = h
first_by text (Err NoMemory) h = tt
