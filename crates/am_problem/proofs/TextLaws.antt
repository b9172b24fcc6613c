-- A text is a problem's exactly where that problem is read from it, and else it has a first refusal.
use Rattle.std.proofs.Common.{◌≡◌, ℕ, Bool, true, false, cond, nat_lt, List, [], ◌∷◌, Option, Some, None, Result, Ok}
use Rattle.std.proofs.Common.{Err, ap, subst, ◌∙◌, sym, refl, inl, inr}
use Rattle.std.specs.Prelude.{IfErr, IfOk}
use Rattle.std.proofs.lemmas.Bool.{ltb-false, le-ltb}
use Rattle.std.proofs.lemmas.List.{append-nil}
use Rattle.am_text.specs.Tokens.{Left, Placed, bad_byte, text_left, tokens_at, words}
use Rattle.am_syntax.proofs.Laws.{EndAlike, Takes-words, refuses_alike, text_found, text_read, text_refused}
use Rattle.am_syntax.specs.Readers.{Read, done, onward}
use Rattle.am_syntax.specs.Texts.{Answers, IsTextOf, ended, opened, read_whole, text_value, whole}
use Rattle.am_syntax.specs.declared.refusal.ReadError.{ReadError}
use Rattle.am_syntax.specs.declared.refusal.ReadError.TheVariants.{NoMemory, Refused}
use Rattle.am_syntax.specs.declared.refusal.Refusal.{Refusal}
use Rattle.am_syntax.specs.declared.refusal.Refusal.TheVariants.{Load, Slots}
use Rattle.am_problem.specs.Grammar.{names_of, problem}
use Rattle.am_problem.specs.Limits.{IsFormed, IsProblem, slots_of}
use Rattle.am_problem.specs.Lines.{Lines}
use Rattle.am_problem.specs.Loads.{load_of}
use Rattle.am_problem.specs.Problem.{Problem}
use Rattle.am_problem.specs.Texts.{IfRefused, IsOneProblem, IsProblemText, IsSettledProblem, ProblemsAreRefusedForGood}
use Rattle.am_problem.specs.Texts.{ReadsAsProblem, settled_problem_of}
use Rattle.am_problem.specs.Texts.{Draft, draft, draft_with, named, numbered, problem_of, settled_by, sized}
use Rattle.am_problem.specs.Texts.{undefined_in}
use Rattle.am_problem.proofs.Formed.{formed_of, lines_of_formed}
use Rattle.am_problem.proofs.LineLaws.{problem_law}
use Rattle.am_problem.proofs.LineLimits.{lines_back, lines_good}
use Rattle.am_problem.proofs.Named.{known_lines, known_named, lines_again, none_missing_lines, problem_again}
use Rattle.am_problem.proofs.Undefined.{comes, lines_past, none_comes, none_found}

-- ---- lines whose names are known

-- lines of which no name is undefined are those of a problem
pub formed_lines : (l : Lines) (s t : Left) → problem.read s ≡ Ok (l, t) →
    undefined_in (names_of l.rules) s.tokens ≡ None →
    IsFormed (numbered l)
formed_lines l s t read defined =
    let taken = problem_law.takes s l t read in
    let none = none_comes (names_of l.rules) s.tokens defined in
    let known = known_lines (names_of l.rules) l
    (sym (lines_past (names_of l.rules) l (words t) taken.1)
    ∙ ap (comes (names_of l.rules)) (sym (Takes-words s (problem.spell l) t taken.0)) ∙ none) in
    formed_of l (lines_good l taken.1) known

-- ---- the last refusals

sized_parts : (p q : Problem) (many heavy : Bool) →
    ◌≡◌ {A = Result Problem Refusal}
    (cond many (Err (Slots (slots_of p))) (cond heavy (Err (Load (load_of p))) (Ok p))) (Ok q) →
    (many ≡ false) × (heavy ≡ false) × (p ≡ q)
sized_parts p q true heavy h = absurd cc
sized_parts p q false true h = absurd cc
sized_parts p q false false h = (refl, refl, cc)

-- a problem within the limits of slots and load is the one that was tested
pub sized_ok : (p q : Problem) → sized p ≡ Ok q → IsFormed p → IsProblem q × (p ≡ q)
sized_ok p q h formed =
    let k = sized_parts p q (nat_lt 256 (slots_of p)) (nat_lt 16777216 (load_of p)) h in
    (subst IsProblem k.2 (record { formed = formed; slots = ltb-false _ _ k.0; load = ltb-false _ _ k.1 }), k.2)

-- a problem within all limits passes
pub sized_back : (p : Problem) → IsProblem p → sized p ≡ Ok p
sized_back p is =
    ap (λ b. cond b (Err (Slots (slots_of p))) (cond (nat_lt 16777216 (load_of p)) (Err (Load (load_of p))) (Ok p)))
    (le-ltb _ _ is.slots)
    ∙ ap (λ b. cond b (Err (Load (load_of p))) (Ok p)) (le-ltb _ _ is.load)

-- ---- a problem and its text

-- where a draft settles to a problem, no name was undefined, and its lines are within the limits
pub settled_ok : (l : Lines) (p : Problem) (place : Option ℕ) → settled_by l place ≡ Ok p →
    (place ≡ None) × (sized (numbered l) ≡ Ok p)
settled_ok l p (Some place) h = absurd cc
settled_ok l p None h = (refl, h)

-- the lines of a text of which no name is undefined are those of a problem
pub formed_text : (l : Lines) (text : List ℕ) → text_value problem text ≡ Ok l →
    undefined_in (names_of l.rules) (tokens_at 0 text) ≡ None →
    IsFormed (numbered l)
formed_text l text value defined =
    let is = text_found problem_law text l value in
    let names = names_of l.rules in
    let past = ap (comes names) (sym (append-nil (problem.spell l))) ∙ lines_past names l [] is.good in
    formed_of l (lines_good l is.good)
    (known_lines names l (sym past ∙ ap (comes names) (sym is.spelled) ∙ none_comes names (tokens_at 0 text) defined))

-- the draft of the lines that a text has
abbrev pub drafted : List ℕ → Result Lines Refusal → Result Draft Refusal
drafted text (Ok l) = Ok (draft_with (tokens_at 0 text) l)
drafted text (Err r) = Err r

drafted_end : (text : List ℕ) (l : Lines) (tokens : List Placed) →
    ended (draft_with (tokens_at 0 text) l) tokens ≡ drafted text (ended l tokens)
drafted_end text l [] = refl
drafted_end text l (t ∷ ts) = refl

drafted_read : (text : List ℕ) (read : Read Lines) →
    whole (onward (λ l. done (draft_with (tokens_at 0 text) l)) read) ≡ drafted text (whole read)
drafted_read text (Ok x) = drafted_end text x.0 x.1.tokens
drafted_read text (Err stop) = refl

drafted_opened : (text : List ℕ) (bad : Option ℕ) →
    opened draft text bad ≡ drafted text (opened problem.read text bad)
drafted_opened text (Some place) = refl
drafted_opened text None = drafted_read text (problem.read (text_left text))

-- the problem of a text is that of its lines
pub problem_of_lines : (text : List ℕ) → problem_of text ≡ settled_problem_of (drafted text (text_value problem text))
unfolding read_whole
problem_of_lines text = ap settled_problem_of (drafted_opened text (bad_byte text))

record IsFound (text : List ℕ) (p : Problem) : Type 0 where
  lines : Lines
  is_text : text_value problem text ≡ Ok lines
  defined : undefined_in (names_of lines.rules) (tokens_at 0 text) ≡ None
  fits : sized (numbered lines) ≡ Ok p

found_in : (text : List ℕ) (p : Problem) (value : Result Lines Refusal) → text_value problem text ≡ value →
    settled_problem_of (drafted text value) ≡ Ok p →
    IsFound text p
found_in text p (Ok l) e h =
    let k = settled_ok l p (undefined_in (names_of l.rules) (tokens_at 0 text)) h in
    record { lines = l; is_text = e; defined = k.0; fits = k.1 }
found_in text p (Err r) e h = absurd cc

reads_from : (text : List ℕ) (p : Problem) → problem_of text ≡ Ok p → ReadsAsProblem text p
reads_from text p h =
    let found = found_in text p (text_value problem text) refl (sym (problem_of_lines text) ∙ h) in
    let l = found.lines in
    let is = text_found problem_law text l found.is_text in
    let names = names_of l.rules in
    let none = none_comes names (tokens_at 0 text) found.defined in
    let past : comes names (problem.spell l) ≡ _ =
    ap (comes names) (sym (append-nil (problem.spell l))) ∙ lines_past names l [] is.good in
    let known = known_lines names l (sym past ∙ ap (comes names) (sym is.spelled) ∙ none) in
    let sized = sized_ok (numbered l) p found.fits (formed_of l (lines_good l is.good) known) in
    record {
      allowed = is.allowed;
      spelled = is.spelled ∙ ap problem.spell (sym (lines_again l known) ∙ ap named sized.1);
      limits = sized.0;
    }

-- the text of a problem is that of its lines
pub lines_text : (text : List ℕ) (p : Problem) → ReadsAsProblem text p → IsTextOf problem text (named p)
lines_text text p reads = record {
  allowed = reads.allowed;
  spelled = reads.spelled;
  good = lines_back (named p) (lines_of_formed p reads.limits.formed);
}

reads_to : (text : List ℕ) (p : Problem) → ReadsAsProblem text p → problem_of text ≡ Ok p
reads_to text p reads =
    let l = named p in
    let names = names_of l.rules in
    let known = known_named p reads.limits.formed in
    let is = lines_text text p reads in
    let past =
    ap (comes names) (sym (append-nil (problem.spell l))) ∙ lines_past names l [] is.good
    ∙ none_missing_lines l known in
    let defined = none_found names (tokens_at 0 text) (ap (comes names) reads.spelled ∙ past) in
    problem_of_lines text
    ∙ ap (λ value. settled_problem_of (drafted text value)) (text_read problem_law tt text l is)
    ∙ ap (settled_by l) defined
    ∙ ap sized (problem_again p reads.limits.formed)
    ∙ sized_back p reads.limits

-- the draft of a problem ends as its lines do
draft_alike : (tokens : List Placed) (read : Read Lines) →
    EndAlike (onward (λ l. done (draft_with tokens l)) read) read
draft_alike tokens (Ok x) = refl
draft_alike tokens (Err stop) = refl

-- a refused token is refused whatever follows it
pub problem_refused : ProblemsAreRefusedForGood
problem_refused =
    refuses_alike draft problem.read IsProblemText (λ s. draft_alike s.tokens (problem.read s))
    (λ text other r at good refused stops (p, reads).
    text_refused problem_law tt text other r at good refused stops (named p, lines_text other p reads))

-- a text is one problem's
pub one_problem : (text : List ℕ) → IsOneProblem text
one_problem text p q own other =
    let same : ◌≡◌ {A = Result Problem Refusal} (Ok p) (Ok q) = sym (reads_to text p own) ∙ reads_to text q other in
    cc

settled_so : (text : List ℕ) (answer : Result Problem Refusal) → problem_of text ≡ answer → IsSettledProblem text
settled_so text (Ok p) e = inl
    (p, reads_from text p e, λ r h. let f : ◌≡◌ {A = Result Problem Refusal} (Ok p) (Err r) = sym e ∙ h in cc)
settled_so text (Err r) e = inr
    (r, e, λ p reads. let f : ◌≡◌ {A = Result Problem Refusal} (Err r) (Ok p) = sym e ∙ reads_to text p reads in cc)

-- each text is a problem's or has a first refusal
pub all_texts_settled : (text : List ℕ) → IsSettledProblem text
all_texts_settled text = settled_so text (problem_of text) refl

-- ---- what an exact answer says

-- what is answered exactly is the text's problem
pub found_by : (text : List ℕ) (result : Result Problem ReadError) → Answers (λ p. p) result (problem_of text) →
    IfOk result (λ p. ReadsAsProblem text p)
found_by text (Ok p) h = reads_from text p h
found_by text (Err e) h = tt

-- the text of a problem is refused for want of memory alone
pub only_by : (text : List ℕ) (result : Result Problem ReadError) → Answers (λ p. p) result (problem_of text) →
    IsProblemText text → IfErr result (λ e. e ≡ NoMemory)
only_by text (Ok p) h is = tt
only_by text (Err (Refused r)) h is =
    absurd (let f : ◌≡◌ {A = Result Problem Refusal} (Err r) (Ok is.0) = sym h ∙ reads_to text is.0 is.1 in cc)
only_by text (Err NoMemory) h is = refl

-- a refusal that is answered is the first
pub first_by : (text : List ℕ) (result : Result Problem ReadError) → Answers (λ p. p) result (problem_of text) →
    IfErr result (λ e. IfRefused e (λ r. problem_of text ≡ Err r))
first_by text (Ok p) h = tt
first_by text (Err (Refused r)) h = h
first_by text (Err NoMemory) h = tt
