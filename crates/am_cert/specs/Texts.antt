-- A certificate's whole text: what it says, and the first refusal of each that says nothing.
use Rattle.std.specs.Prelude.{◌≡◌, ℕ, ◌+◌, ◌≤◌, ◌^◌, ◌||◌, bytes_eq, if◌then◌else◌, List, [], ◌∷◌, ◌++◌, codes, length}
use Rattle.std.specs.Prelude.{sum_by, None, Result, Ok, Err, ◌⊎◌}
use Rattle.am_text.specs.Tokens.{Left, bad_byte, words, words_of}
use Rattle.am_problem.specs.Grammar.{problem}
use Rattle.am_problem.specs.Problem.{Problem}
use Rattle.am_problem.specs.Texts.{Draft as ProblemDraft, draft as problem_draft, named, settled as settled_problem}
use Rattle.am_syntax.specs.Pieces.{closed, keyed}
use Rattle.am_syntax.specs.Readers.{◌>>=◌, Reader, Word, Words, done}
use Rattle.am_syntax.specs.Texts.{RefusesForGood, read_whole}
use Rattle.am_syntax.specs.declared.refusal.Refusal.{Refusal}
use Rattle.am_cert.specs.Certificate.{Certificate, IsCertificate, answer_of}
use Rattle.am_cert.specs.Grammar.{answer, shape_of, version, version_word}
use Rattle.am_cert.specs.Versions.{has_hints}
use Rattle.am_cert.specs.declared.answer.Answer.{Answer}
use Rattle.am_cert.specs.declared.version.Version.{Version}

-- ---- what is read from left to right

-- a certificate before the names of its problem are numbered and its size is tested
pub record Draft : Type 0 where
  pub version : Version
  pub problem : ProblemDraft
  pub answer : Answer

-- answer ANSWER end
abbrev pub answered : Version → ProblemDraft → Reader Answer
answered v d = (closed (codes "end") (keyed (codes "answer") (answer (has_hints v) (shape_of d.lines)))).read

-- certificate VERSION, a problem, and its answer
unfoldable pub draft : Reader Draft
draft =
    (keyed (codes "certificate") version).read >>= λ v.
    problem_draft >>= λ d.
    answered v d >>= λ a.
    done (record { version = v; problem = d; answer = a })

-- a version, an outcome and a problem are a certificate, unless the problem is refused
abbrev pub settled_with : Version → Answer → Result Problem Refusal → Result Certificate Refusal
settled_with v a (Ok p) = Ok (record { version = v; problem = p; outcome = a.outcome; proofs = a.proofs })
settled_with v a (Err r) = Err r

-- the certificate of a draft, or the refusal of its problem's names, slots or load
abbrev pub settled : Draft → Result Certificate Refusal
settled d = settled_with d.version d.answer (settled_problem d.problem)

-- ---- how much is left to read

-- the bytes of a word, and one that parts it from a next word; a parenthesis needs none, and isn't counted
abbrev pub word_bytes : Word → ℕ
word_bytes word = if bytes_eq word (codes "(") || bytes_eq word (codes ")") then 0 else length word + 1

-- what is left of a text of fewer than 2^32 bytes
abbrev pub IsShort : Left → Type 0
IsShort left = sum_by word_bytes (words left) ≤ 2 ^ 32

-- ---- whole texts

-- the words of a certificate's text
abbrev pub certificate_words : Certificate → Words
certificate_words c =
    codes "certificate" ∷ version_word c.version ∷
    (problem.spell (named c.problem) ++
    (codes "answer" ∷
    ((answer (has_hints c.version) (shape_of (named c.problem))).spell (answer_of c) ++ codes "end" ∷ [])))

-- the text is this certificate's
pub record ReadsAsCertificate (text : List ℕ) (c : Certificate) : Type 0 where
  pub allowed : bad_byte text ≡ None
  pub spelled : words_of text ≡ certificate_words c
  pub limits : IsCertificate c

-- the draft of a text, or the first refusal of its bytes and tokens
abbrev pub draft_of : List ℕ → Result Draft Refusal
draft_of text = read_whole draft text

-- the certificate of a draft, unless there is a refusal
abbrev pub settled_certificate_of : Result Draft Refusal → Result Certificate Refusal
settled_certificate_of (Ok d) = settled d
settled_certificate_of (Err r) = Err r

-- the certificate of a text, or its first refusal
abbrev pub certificate_of : List ℕ → Result Certificate Refusal
certificate_of text = settled_certificate_of (draft_of text)

-- the text is some certificate's
abbrev pub IsCertificateText : List ℕ → Type 0
IsCertificateText text = (c : Certificate) × ReadsAsCertificate text c

-- a token that is refused in a certificate's place is refused whatever follows it
abbrev pub CertificatesAreRefusedForGood : Type 0
CertificatesAreRefusedForGood = RefusesForGood draft IsCertificateText

-- a text is one certificate's at most
abbrev pub IsOneCertificate : List ℕ → Type 0
IsOneCertificate text = (c d : Certificate) → ReadsAsCertificate text c → ReadsAsCertificate text d → c ≡ d

-- a text is some certificate's and has no refusal, or it is none's and has one
abbrev pub IsSettledCertificate : List ℕ → Type 0
IsSettledCertificate text =
    ((c : Certificate) × ReadsAsCertificate text c × ((r : Refusal) → certificate_of text ≡ Err r → ⊥)) ⊎
    ((r : Refusal) × (certificate_of text ≡ Err r) × ((c : Certificate) → ReadsAsCertificate text c → ⊥))
